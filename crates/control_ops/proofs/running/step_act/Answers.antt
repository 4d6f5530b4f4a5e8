-- The frame that was taken off is the newest.
use Rattle.ps_kinds.specs.declared.frame.Frame.TheVariants as frame
use Rattle.control_ops.proofs.Stepping.{stepped}
use Rattle.control_ops.proofs.running.step_act.Goals as goal

pub returns-in-Some-For : goal.returns-in-Some-For
returns-in-Some-For g c =
    let log = g.M.Mem.log c.args.mem.now in
    stepped (frame.For c.in-Some-For.body c.in-Some-For.next c.in-Some-For.increment c.in-Some-For.limit c.in-Some-For.whole) c.in-Some-For.field-0 c.args.state.now c.pop.new.self log c.for_step.result c.for_step.new.state log c.in-Some-For.ensures c.in-Some-For.field-0-is (c.for_step.ensures log)

pub returns-in-Some-Repeat : goal.returns-in-Some-Repeat
returns-in-Some-Repeat g c =
    let log = g.M.Mem.log c.args.mem.now in
    stepped (frame.Repeat c.in-Some-Repeat.body c.in-Some-Repeat.left) c.in-Some-Repeat.field-0 c.args.state.now c.pop.new.self log c.repeat_step.result c.repeat_step.new.state log c.in-Some-Repeat.ensures c.in-Some-Repeat.field-0-is (c.repeat_step.ensures log)

pub returns-in-Some-Loop : goal.returns-in-Some-Loop
returns-in-Some-Loop g c =
    let log = g.M.Mem.log c.args.mem.now in
    stepped (frame.Loop c.in-Some-Loop.body) c.in-Some-Loop.field-0 c.args.state.now c.pop.new.self log c.loop_step.result c.loop_step.new.state log c.in-Some-Loop.ensures c.in-Some-Loop.field-0-is (c.loop_step.ensures log)

pub returns-in-Some-Pairs : goal.returns-in-Some-Pairs
returns-in-Some-Pairs g c =
    let log = g.M.Mem.log c.args.mem.now in
    stepped (frame.Pairs c.in-Some-Pairs.pairs c.in-Some-Pairs.at c.in-Some-Pairs.body) c.in-Some-Pairs.field-0 c.args.state.now c.pop.new.self log c.pair_step.result c.pair_step.new.state log c.in-Some-Pairs.ensures c.in-Some-Pairs.field-0-is (c.pair_step.ensures log)

pub returns-in-Some-Stopped : goal.returns-in-Some-Stopped
returns-in-Some-Stopped g c =
    let log = g.M.Mem.log c.args.mem.now in
    stepped frame.Stopped c.in-Some-Stopped.field-0 c.args.state.now c.pop.new.self log c.stopped_step.result c.stopped_step.new.state log c.in-Some-Stopped.ensures c.in-Some-Stopped.field-0-is (c.stopped_step.ensures log)

pub returns-in-Some-Items : goal.returns-in-Some-Items
returns-in-Some-Items g c =
    let log = g.M.Mem.log in
    stepped (frame.Items c.in-Some-Items.array c.in-Some-Items.at c.in-Some-Items.body) c.in-Some-Items.field-0 c.args.state.now c.pop.new.self (log c.args.mem.now) c.item_step.result c.item_step.new.state (log c.item_step.new.mem) c.in-Some-Items.ensures c.in-Some-Items.field-0-is c.item_step.ensures

pub returns-in-Some-Bytes : goal.returns-in-Some-Bytes
returns-in-Some-Bytes g c =
    let log = g.M.Mem.log in
    stepped (frame.Bytes c.in-Some-Bytes.string c.in-Some-Bytes.at c.in-Some-Bytes.body) c.in-Some-Bytes.field-0 c.args.state.now c.pop.new.self (log c.args.mem.now) c.byte_step.result c.byte_step.new.state (log c.byte_step.new.mem) c.in-Some-Bytes.ensures c.in-Some-Bytes.field-0-is c.byte_step.ensures
