use Rattle.std.proofs.Common.{sym}
use Rattle.file_ops.proofs.Scanning.{file_does}
use Rattle.file_ops.proofs.tokens.file_token.Goals as goal

pub returns : goal.returns
returns g c =
    let log = g.M.Mem.log in
    file_does c.args.text.now c.args.state.now (log c.args.mem.now) (log c.scan.new.mem) c.in_ok-scanned.scanned c.end_file.result c.end_file.new.state (log c.end_file.new.mem)
    c.args.file c.in_ok-own.field-0 (sym c.in_ok-own.ensures) c.in_ok-scanned.ensures.scans c.end_file.ensures
