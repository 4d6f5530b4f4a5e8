-- The paper as operators look at it and store it.
use Rattle.std.specs.Prelude.{[], ◌∷◌}
use Rattle.ps_shapes.specs.Sheet.{Sheet}
use Rattle.ps_names.specs.declared.error_name.ErrorName.TheVariants.{Undefined}
use Rattle.ps_objects.specs.declared.place.Loc.TheVariants as loc
use Rattle.ps_objects.specs.declared.place.Value.{Value}
use Rattle.ps_objects.specs.declared.place.Value.TheVariants as value
use Rattle.ps_kinds.specs.declared.state.State.{State}
use Rattle.ps_memory.specs.Memory.{Page, here, out, store}
use Rattle.ps_memory.specs.Tree.{Application, done, fail, look, lays}
use Rattle.ps_meaning.specs.Answer.{Log, looked_in, acted_in}
use Rattle.ps_operator.specs.Registers.{quiet}
use Rattle.ps_operator.specs.Tree.{Ask}

-- goes on with paper; another value never comes
abbrev pub paper_then : {A : Type 0} → (Sheet → Application A) → Value → Application A
paper_then k (value.Paper p) = k p
paper_then k _ = fail Undefined

-- a look at the paper
abbrev pub look_paper : {A : Type 0} → (Sheet → Application A) → Application A
look_paper k = look loc.Paper (paper_then k)

-- the paper is looked at, and stored as a change leaves it; the operator ends with a state
abbrev pub repaints : (Sheet → Sheet) → State → Ask
repaints change after = look_paper (λ p. done (lays (change p) ∷ []) (quiet after))

-- ---- what becomes of a log

-- by the paper that is here
abbrev pub relaid : (Sheet → Sheet) → Page → Log → Log
relaid change (here p) log = acted_in (looked_in log loc.Paper) (store loc.Paper (value.Paper (change p)))
relaid change (out w h) log = looked_in log loc.Paper

-- the paper was looked at, and stored as a change leaves it; no operator's proof opens this
unfoldable pub repainted_in : (Sheet → Sheet) → Log → Log
repainted_in change log = relaid change log.view.page log
