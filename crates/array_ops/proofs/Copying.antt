-- A step of the loop that copies operands.
use Rattle.std.proofs.Common.{◌≡◌, ℕ, zero, suc, ◌+◌, ◌-◌, ◌<◌, ◌≤◌, List, [], ◌∷◌, ◌++◌, take, drop, length, Option, Some, None, slice_get, Ok, refl, sym, ap, ◌∙◌, arith}
use Rattle.std.proofs.lemmas.List.{length-take-le, length-drop, length-append, get_or-append_right, get_or-take, drop_all}
use Rattle.std.proofs.lemmas.Option.{slice_get-get_or, get_or_from_slice_get}
use Rattle.std.specs.Prelude.{get_or}
use Rattle.ps_objects.specs.declared.object.Object.{Object}
use Rattle.ps_objects.specs.Operands.{object_at}
use Rattle.ps_operator.proofs.LookSteps.{drop_at_get}

-- the copies so far, on the operands
abbrev pub so_far : ℕ → ℕ → List Object → List Object
so_far n count xs = drop (count - n) (take count xs) ++ xs

module _ (n count : ℕ) (xs : List Object) (l : n < count) (h : count ≤ length xs) where
  copied : length (drop (count - n) (take count xs)) ≡ n
  copied =
      let p : length (take count xs) ≡ count = length-take-le count xs h in
      length-drop (count - n) (take count xs) ∙ ap (λ m. m - (count - n)) p ∙ left
    where
      left : count - (count - n) ≡ n
      left = omega (arith, l)

  pub enough : count - 1 < length (so_far n count xs)
  enough =
      let p : length (so_far n count xs) ≡ length (drop (count - n) (take count xs)) + length xs = length-append (drop (count - n) (take count xs)) xs in
      let q : length (drop (count - n) (take count xs)) ≡ n = copied in
      omega (arith, p, q, l, h)

  next : (x : Object) → slice_get (so_far n count xs) (count - 1) ≡ Some x → x ∷ so_far n count xs ≡ so_far (n + 1) count xs
  next x e =
      let front : List Object = drop (count - n) (take count xs) in
      let j : ℕ = count - (n + 1) in
      let a : n ≤ count - 1 = omega (arith, l) in
      let b : count - 1 - n ≡ j = omega (arith, l) in
      let c : j < count = omega (arith, l) in
      let d : get_or (so_far n count xs) (count - 1) x ≡ x = get_or_from_slice_get (so_far n count xs) (count - 1) x x e in
      let g : get_or xs j x ≡ x = ap (λ m. get_or xs m x) (sym b) ∙ sym (get_or-append_right front xs n (count - 1) x copied a) ∙ d in
      let k : get_or (take count xs) j x ≡ x = get_or-take count xs j x c ∙ g in
      let p : length (take count xs) ≡ count = length-take-le count xs h in
      let q : j < length (take count xs) = omega (arith, p, c) in
      let r : slice_get (take count xs) j ≡ Some x = slice_get-get_or (take count xs) j x q ∙ ap Some k in
      let m : j + 1 ≡ count - n = omega (arith, l) in
      let t : drop j (take count xs) ≡ x ∷ drop (count - n) (take count xs) = drop_at_get (take count xs) j x r ∙ ap (λ i. x ∷ drop i (take count xs)) m in
      ap (λ ys. ys ++ xs) (sym t)

at_depth : (xs : List Object) (i : ℕ) (x : Object) → slice_get xs i ≡ Some x → object_at i xs ≡ Ok x
at_depth [] i x e = cc
at_depth (y ∷ ys) zero x e = let p : y ≡ x = cc in ap Ok p
at_depth (y ∷ ys) (suc i) x e = at_depth ys i x e

there : (ys : List Object) (i : ℕ) → i < length ys → slice_get ys i ≡ None → ⊥
there [] i k p = absurd (omega (arith, k))
there (y ∷ ys) zero k p = cc
there (y ∷ ys) (suc i) k p = there ys i (omega (arith, k)) p

-- one copy more
pub copies_step : (n count : ℕ) (xs old new : List Object) → n < count → count ≤ length xs → old ≡ so_far n count xs
    → ((x : Object) → object_at (count - 1) old ≡ Ok x → new ≡ x ∷ old) → new ≡ so_far (n + 1) count xs
copies_step n count xs old new l h e g = go (slice_get (so_far n count xs) (count - 1)) refl
  where
    go : (o : Option Object) → slice_get (so_far n count xs) (count - 1) ≡ o → new ≡ so_far (n + 1) count xs
    go (Some x) p =
        let q : slice_get old (count - 1) ≡ Some x = ap (λ ys. slice_get ys (count - 1)) e ∙ p in
        let r : object_at (count - 1) old ≡ Ok x = at_depth old (count - 1) x q in
        g x r ∙ ap (λ ys. x ∷ ys) e ∙ next n count xs l h x p
    go None p = absurd (there (so_far n count xs) (count - 1) (enough n count xs l h) p)

-- none is copied yet
pub copies_begin : (count : ℕ) (xs : List Object) → count ≤ length xs → xs ≡ so_far 0 count xs
copies_begin count xs h =
    let p : length (take count xs) ≡ count = length-take-le count xs h in
    sym (ap (λ ys. ys ++ xs) (drop_all (count - 0) (take count xs) (omega (arith, p))))

-- all are copied
pub copies_end : (n count : ℕ) (xs : List Object) → n ≡ count → so_far n count xs ≡ take count xs ++ xs
copies_end n count xs e = let p : count - n ≡ 0 = omega (arith, e) in ap (λ m. drop m (take count xs) ++ xs) p
