-- The turns of a section.
use Rattle.std.specs.Prelude.{ℕ, zero, suc, ◌-◌}
use Rattle.ps_kinds.specs.declared.state.State.{State}
use Rattle.ps_meaning.specs.Budgets.{turn_budget}

-- the turns that are left
abbrev pub left : State → ℕ
left s = turn_budget s.kind - s.turns

-- the state with one more turn
abbrev pub counted : State → State
counted s = record s { turns = suc s.turns }

-- what is done with one more turn, where n are left
abbrev pub taking : {A : Type 0} → ℕ → A → (State → A) → State → A
taking zero spent go s = spent
taking (suc n) spent go s = go (counted s)
