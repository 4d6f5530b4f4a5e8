-- The newest operands: steps of the search for a mark, and operands seen without those above them.
use Rattle.std.proofs.Common.{◌≡◌, ℕ, suc, ◌+◌, true, false, cond, List, [], ◌∷◌, Some, Ok, slice_get, drop, refl, sym, ap, ◌∙◌, add-one}
use Rattle.ps_objects.specs.declared.object.Object.{Object}
use Rattle.ps_objects.specs.Operands.{object_at}
use Rattle.ps_operator.specs.Marks.{is_mark, above_mark_from}
use Rattle.ps_operator.proofs.LookSteps.{drop_at_get}

pub mark_hit : (xs : List Object) (i : ℕ) (x : Object) → slice_get xs i ≡ Some x → is_mark x.kind ≡ true
    → above_mark_from i (drop i xs) ≡ Ok i
mark_hit xs i x e h =
    ap (above_mark_from i) (drop_at_get xs i x e) ∙ ap (λ b. cond b (Ok i) (above_mark_from (i + 1) (drop (i + 1) xs))) h

pub mark_miss : (xs : List Object) (i : ℕ) (x : Object) → slice_get xs i ≡ Some x → is_mark x.kind ≡ false
    → above_mark_from i (drop i xs) ≡ above_mark_from (i + 1) (drop (i + 1) xs)
mark_miss xs i x e h =
    ap (above_mark_from i) (drop_at_get xs i x e) ∙ ap (λ b. cond b (Ok i) (above_mark_from (i + 1) (drop (i + 1) xs))) h

below_newest : (xs : List Object) (n : ℕ) → object_at (suc n) xs ≡ object_at n (drop 1 xs)
below_newest [] n = refl
below_newest (x ∷ xs) n = refl

-- an operand, once the newest is taken away
pub without_newest : (xs : List Object) (n : ℕ) (x : Object) → object_at (n + 1) xs ≡ Ok x → object_at n (drop 1 xs) ≡ Ok x
without_newest xs n x e = sym (below_newest xs n) ∙ ap (λ m. object_at m xs) (sym (add-one n)) ∙ e
