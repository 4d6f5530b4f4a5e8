-- The frame that was taken off is the newest.
use Rattle.ps_kinds.specs.declared.frame.Frame.TheVariants as frame
use Rattle.path_build.proofs.Stepping.{stepped}
use Rattle.path_build.proofs.running.step_act.Goals as goal

pub returns : goal.returns
returns c = stepped (frame.Walk c.in-Some-Walk.walk) c.in-Some-Walk.field-0 c.args.state.now c.pop.new.self c.walk_step.result c.walk_step.new.state c.in-Some-Walk.ensures c.in-Some-Walk.field-0-is c.walk_step.ensures
