use Rattle.std.proofs.Common.{◌∙◌, sym, subst}
use Rattle.overlay_steps.specs.Newest.{MadeOnce}
use Rattle.overlay_steps.specs.Pile.{acts}
use Rattle.overlay_steps.specs.Steps.{IsSteps}
use Rattle.overlay_steps.proofs.Taking.{is_there, taken}
use Rattle.overlay_steps.proofs.steps.Steps.pop.Goals as goal

pub forget-requires : goal.forget-requires
forget-requires c =
    is_there c.in-Some.step c.pop.new.self c.self.inside.saves c.self.inside.index.entries c.self.inside.made.entries
    (subst (λ xs. IsSteps xs c.self.inside.saves c.self.inside.index.entries c.self.inside.made.entries) c.in-Some.ensures c.self.invariant)

pub invariant_of-self-in-Some : goal.invariant_of-self-in-Some
invariant_of-self-in-Some c =
    taken c.in-Some.step c.pop.new.self c.self.inside.saves c.forget.new.saves c.self.inside.index.entries c.forget.new.index.entries c.self.inside.made.entries c.forget.new.made.entries
    (subst (λ xs. IsSteps xs c.self.inside.saves c.self.inside.index.entries c.self.inside.made.entries) c.in-Some.ensures c.self.invariant)
    (subst (λ xs. MadeOnce (acts xs)) (sym c.self.view_is ∙ c.in-Some.ensures) c.requires)
    c.forget.ensures.saves c.forget.ensures.index c.forget.ensures.made
