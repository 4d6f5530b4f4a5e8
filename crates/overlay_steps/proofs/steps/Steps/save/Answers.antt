use Rattle.overlay_steps.proofs.Placed.{steps_save}
use Rattle.overlay_steps.proofs.steps.Steps.save.Goals as goal

pub invariant_of-self-2 : goal.invariant_of-self-2
invariant_of-self-2 c =
    steps_save c.args.name c.self.inside.pile c.push_save.new.pile c.self.inside.saves c.push_save.new.saves c.self.inside.index.entries c.self.inside.made.entries
    c.in_ok-push_save.ensures.pile c.in_ok-push_save.ensures.saves c.self.invariant
