-- Places in a part of a list.
use Rattle.std.proofs.Common.{◌≡◌, ℕ, zero, suc, ◌-◌, ◌≤◌, List, [], ◌∷◌, ◌++◌, length, arith, slice_get, Some}

-- a part's front
front : {X : Type 0} (xs ys : List X) (i : ℕ) (x : X) → slice_get xs i ≡ Some x → slice_get (xs ++ ys) i ≡ Some x
front [] ys i x h = cc
front (y ∷ xs) ys zero x h = h
front (y ∷ xs) ys (suc i) x h = front xs ys i x h

-- behind a part
behind : {X : Type 0} (xs ys : List X) (n i : ℕ) (x : X) → length xs ≡ n → n ≤ i → slice_get ys (i - n) ≡ Some x → slice_get (xs ++ ys) i ≡ Some x
behind [] ys n i x e l h = let same : i - n ≡ i = omega arith in rw (← same) h
behind (y ∷ xs) ys zero i x e l h = cc
behind (y ∷ xs) ys (suc n) zero x e l h = absurd (omega arith)
behind (y ∷ xs) ys (suc n) (suc i) x e l h = behind xs ys n i x (omega arith) (omega arith) (let same : suc i - suc n ≡ i - n = omega arith in rw (← same) h)

-- in a part between two others
pub placed : {X : Type 0} (before xs after : List X) (n i : ℕ) (x : X) → length before ≡ n → n ≤ i → slice_get xs (i - n) ≡ Some x → slice_get (before ++ (xs ++ after)) i ≡ Some x
placed before xs after n i x e l h = behind before (xs ++ after) n i x e l (front xs after (i - n) x h)
