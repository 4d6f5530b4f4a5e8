use Rattle.error_ops.proofs.Told.{error_joined}
use Rattle.error_ops.proofs.recording.tell_error.Goals as goal

pub returns : goal.returns
returns g c =
    let log = g.M.Mem.log in
    error_joined (log c.args.mem.now) (log c.tell.new.mem) (log c.tell-2.new.mem) (log c.tell-3.new.mem) (log c.tell-4.new.mem) (log c.tell-5.new.mem) c.args.error c.args.command
    c.truth.result c.in_ok-name_of.field-0 c.array_of.result c.array_of-2.result c.args.operands c.args.dicts
    c.truth.ensures c.in_ok-name_of.ensures c.array_of.ensures c.array_of-2.ensures
    c.in_ok-tell.ensures.told c.in_ok-tell-2.ensures.told c.in_ok-tell-3.ensures.told c.in_ok-tell-4.ensures.told c.in_ok-tell-5.ensures.told
