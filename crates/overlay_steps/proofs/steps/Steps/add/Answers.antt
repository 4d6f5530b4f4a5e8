use Rattle.overlay_steps.proofs.Placed.{steps_store}
use Rattle.overlay_steps.proofs.steps.Steps.add.Goals as goal

pub invariant_of-self-2 : goal.invariant_of-self-2
invariant_of-self-2 c =
    steps_store c.args.at.now c.args.value c.self.inside.pile c.push_store.new.pile c.self.inside.saves c.self.inside.index.entries c.push_store.new.index.entries c.self.inside.made.entries
    c.in_ok-push_store.ensures.pile c.in_ok-push_store.ensures.index c.self.invariant
