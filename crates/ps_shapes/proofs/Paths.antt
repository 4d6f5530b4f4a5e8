-- A path whose last segment was replaced.
use Rattle.std.proofs.Common.{◌≡◌, ℕ, ◌+◌, ◌-◌, ◌<◌, List, [], ◌∷◌, ◌++◌, length, take, set, suc, refl, sym, ◌∙◌, ap, arith}
use Rattle.std.proofs.lemmas.Grind.{take-set_at}
use Rattle.std.proofs.lemmas.List.{length-set, take_all}
use Rattle.std.specs.Prelude.{IsTrue}
use Rattle.ps_shapes.specs.declared.path.Segment.{Segment}
use Rattle.ps_shapes.specs.Path.{IsPath, is_move}

pub last_replaced : {X : Type 0} (xs : List X) (y : X) → 0 < length xs → set xs (length xs - 1) y ≡ take (length xs - 1) xs ++ y ∷ []
last_replaced xs y h =
    let i = length xs - 1 in
    sym (take_all (length xs) (set xs i y) (omega (arith, length-set xs i y))) ∙ take-set_at xs i (length xs) y (omega arith) (omega arith)

pub path_replaced : (xs : List Segment) (y : Segment) → 0 < length xs → (length xs ≡ 1 → IsTrue (is_move y)) → IsPath xs → IsPath (set xs (length xs - 1) y)
path_replaced [] y h first path = path
path_replaced (x ∷ []) y h first path = first refl
path_replaced (x ∷ (z ∷ xs)) y h first path = let e : length (x ∷ (z ∷ xs)) - 1 ≡ suc (length xs) = omega arith in rw e path
