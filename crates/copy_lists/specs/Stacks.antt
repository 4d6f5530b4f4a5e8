-- The newest item of a stack, taken.
use Rattle.std.specs.Prelude.{◌≡◌, List, [], ◌∷◌, Option, MatchOption}

-- the newest item comes off and the others stay; of an empty stack there is none
abbrev pub Pops : {A : Type 0} → List A → List A → Option A → Type 0
Pops old new taken = MatchOption taken ((old ≡ []) × (new ≡ [])) (λ x. old ≡ x ∷ new)
