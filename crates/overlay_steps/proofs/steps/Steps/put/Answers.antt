use Rattle.overlay_steps.proofs.Placed.{steps_put}
use Rattle.overlay_steps.proofs.steps.Steps.put.Goals as goal

pub invariant_of-self : goal.invariant_of-self
invariant_of-self c = steps_put c.args.place c.args.value c.self.inside.pile c.put.new.self c.self.inside.saves c.self.inside.index.entries c.self.inside.made.entries c.put.ensures.new c.self.invariant
