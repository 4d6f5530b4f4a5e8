use Rattle.overlay_steps.proofs.Placed.{steps_fresh}
use Rattle.overlay_steps.proofs.steps.Steps.fresh.Goals as goal

pub invariant_of-self-2 : goal.invariant_of-self-2
invariant_of-self-2 c =
    steps_fresh c.args.cell c.args.shape c.self.inside.pile c.push_fresh.new.pile c.self.inside.saves c.self.inside.index.entries c.self.inside.made.entries c.push_fresh.new.made.entries
    c.in_ok-push_fresh.ensures.pile c.in_ok-push_fresh.ensures.made c.self.invariant
