use Rattle.std.proofs.Common.{subst}
use Rattle.ps_gather.specs.Ended.{Scans}
use Rattle.file_ops.proofs.Scanning.{string_does}
use Rattle.file_ops.proofs.tokens.string_token.Goals as goal

pub returns : goal.returns
returns g c =
    let log = g.M.Mem.log in
    let s = c.args.state.now in
    string_does s (log c.args.mem.now) (log c.bytes_of.new.mem) (log c.scan.new.mem) c.in_ok-scanned.scanned c.end_string.result c.end_string.new.state (log c.end_string.new.mem)
    c.args.string c.in_ok-bytes.bytes.items c.in_ok-bytes.ensures.told
    (subst (λ bs. Scans bs 0 s (log c.bytes_of.new.mem) c.in_ok-scanned.scanned (log c.scan.new.mem)) c.as_slice.ensures.value c.in_ok-scanned.ensures.scans) c.end_string.ensures
