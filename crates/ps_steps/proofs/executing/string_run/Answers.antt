-- By the lemma of a string that is looked at whole.
use Rattle.std.proofs.Common.{sym, ◌∙◌}
use Rattle.ps_steps.proofs.Executes.{string_runs}
use Rattle.ps_steps.proofs.executing.string_run.Goals as goal

pub returns-clause-meets : goal.returns-clause-meets
returns-clause-meets g c =
    let log = g.M.Mem.log in
    (string_runs c.args.object c.args.string c.args.state.now (log c.args.mem.now) (log c.bytes_of.new.mem) c.in_ok-bytes.bytes.items c.in_ok-bytes-2.bytes (sym c.in-Ok.ensures) (sym c.in-Ok-frames_room.ensures) c.in_ok-bytes.ensures.told (c.in_ok-bytes-2.ensures ∙ c.as_slice.ensures.value), tt)
