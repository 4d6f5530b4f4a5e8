-- Lengths that are read one by one, and what makes them a pattern.
use Rattle.std.proofs.Common.{◌≡◌, ℕ, suc, ◌+◌, ◌≤◌, Bool, true, false, not, ◌||◌, ◌&&◌, nat_lt, int_lt, ℤ, pos, List, [], ◌∷◌, ◌++◌, length, slice_get, drop, Some, Result, Ok, Err, refl, sym, ap, ◌∙◌, arith}
use Rattle.std.specs.Prelude.{◌≤ℤ◌, All, Any}
use Rattle.std.proofs.lemmas.List.{drop_all}
use Rattle.std.proofs.lemmas.List.Elements.{All-push}
use Rattle.ps_names.specs.declared.error_name.ErrorName.{ErrorName}
use Rattle.ps_objects.specs.declared.object.Object.{Object}
use Rattle.ps_shapes.specs.declared.numbers.Real.{Real}
use Rattle.ps_kinds.specs.Ranges.{IsDash}
use Rattle.ps_operator.specs.Registers.{any_of}
use Rattle.ps_operator.proofs.LookSteps.{drop_at_get}
use Rattle.gstate.specs.Dashes.{length_of, lengths_from, is_some, is_idle}

-- ---- one item more

module _ (seen : List Real) (xs : List Object) (i : ℕ) (x : Object) (here : slice_get xs i ≡ Some x) where
  lengths_at : (r : Result Real ErrorName) → length_of x.kind ≡ r → lengths_from seen (drop i xs) ≡ elim r [ Err e ↦ Err e | Ok r ↦ lengths_from (seen ++ r ∷ []) (drop (i + 1) xs) ]
  lengths_at r e = ap (lengths_from seen) (drop_at_get xs i x here) ∙ ap (λ (r : Result Real ErrorName). elim r [ Err e ↦ Err e | Ok r ↦ lengths_from (seen ++ r ∷ []) (drop (i + 1) xs) ]) e

  pub length_read : (r : Real) → length_of x.kind ≡ Ok r → lengths_from seen (drop i xs) ≡ lengths_from (seen ++ r ∷ []) (drop (i + 1) xs)
  length_read r e = lengths_at (Ok r) e

  pub length_refused : (n : ErrorName) → length_of x.kind ≡ Err n → lengths_from seen (drop i xs) ≡ lengths_from [] xs → lengths_from [] xs ≡ Err n
  length_refused n e p = sym p ∙ lengths_at (Err n) e

pub lengths_read : (seen : List Real) (xs : List Object) (i : ℕ) → i ≡ length xs → lengths_from seen (drop i xs) ≡ Ok seen
lengths_read seen xs i e = ap (lengths_from seen) (drop_all i xs (omega (arith, e)))

pub one_more : (rs : List Real) (r : Real) → All (λ (real : Real). pos 0 ≤ℤ real.count) rs → pos 0 ≤ℤ r.count → All (λ (real : Real). pos 0 ≤ℤ real.count) (rs ++ r ∷ [])
one_more rs r h g = All-push (λ (real : Real). pos 0 ≤ℤ real.count) rs r h g

-- ---- patterns

positive : (z : ℤ) → int_lt (pos 0) z ≡ true → pos 1 ≤ℤ z
positive z e = grind arith

some_there : (rs : List Real) → any_of is_some rs ≡ true → Any (λ (real : Real). pos 1 ≤ℤ real.count) rs
some_there [] e = cc
some_there (r ∷ rs) e = go (is_some r) refl (some_there rs) e
  where
    go : (b : Bool) → is_some r ≡ b → (any_of is_some rs ≡ true → Any (λ (real : Real). pos 1 ≤ℤ real.count) rs) → (b || any_of is_some rs) ≡ true → Any (λ (real : Real). pos 1 ≤ℤ real.count) (r ∷ rs)
    go true p h e = (0, r, omega arith, refl, positive r.count p)
    go false p h e = let a = h e in (suc a.0, a.1, omega (arith, a.2), a.3, a.4)

filled : (n : ℕ) → nat_lt 0 (suc n) ≡ true
filled n = grind arith

not_idle : (rs : List Real) (r : Real) → is_idle (r ∷ rs) ≡ false → any_of is_some (r ∷ rs) ≡ true
not_idle rs r e = go (nat_lt 0 (suc (length rs))) (any_of is_some (r ∷ rs)) (filled (length rs)) e
  where
    go : (a b : Bool) → a ≡ true → (a && not b) ≡ false → b ≡ true
    go true true p e = refl
    go true false p e = cc
    go false b p e = cc

pub is_dash : (rs : List Real) → All (λ (real : Real). pos 0 ≤ℤ real.count) rs → is_idle rs ≡ false → length rs ≤ 32 → IsDash rs
is_dash [] h e l = tt
is_dash (r ∷ rs) h e l = (l, h, some_there (r ∷ rs) (not_idle rs r e))
