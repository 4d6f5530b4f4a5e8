use Rattle.std.proofs.Common.{◌≡◌, ℕ, ◌-◌, ◌<◌, ◌≤◌, List, [], ◌∷◌, ◌++◌, length, take, drop, set, sym, ap, ◌∙◌, arith, length-drop}
use Rattle.std.specs.Prelude.{reverse}
use Rattle.copy_lists.specs.Turned.{end_turned}
use Rattle.std.proofs.lemmas.Grind.{take-set_at}
use Rattle.std.proofs.lemmas.List.{reverse-append, reverse-reverse, length-reverse, length-set, take-append-drop, take_all, drop_at, take_at}

-- the newest n taken away, where a list is seen from its end
pub shrunk : {A : Type 0} (xs : List A) (n : ℕ) → n ≤ length xs → reverse (take (length xs - n) xs) ≡ drop n (reverse xs)
shrunk xs n h =
    let k : length (reverse (drop (length xs - n) xs)) ≡ n = length-reverse (drop (length xs - n) xs) ∙ length-drop (length xs - n) xs ∙ omega arith in
    sym (ap (λ ys. drop n (reverse ys)) (sym (take-append-drop (length xs - n) xs)) ∙ ap (drop n) (reverse-append (take (length xs - n) xs) (drop (length xs - n) xs)) ∙ drop_at _ _ n k)

pub turned : {A : Type 0} (xs : List A) (n : ℕ) → n ≤ length xs → reverse (drop (length xs - n) xs) ≡ take n (reverse xs)
turned xs n h =
    let k : length (reverse (drop (length xs - n) xs)) ≡ n = length-reverse (drop (length xs - n) xs) ∙ length-drop (length xs - n) xs ∙ omega arith in
    sym (ap (λ ys. take n (reverse ys)) (sym (take-append-drop (length xs - n) xs)) ∙ ap (take n) (reverse-append (take (length xs - n) xs) (drop (length xs - n) xs)) ∙ take_at _ _ n k)

pub roll_view : {A : Type 0} (xs : List A) (n k : ℕ) → n ≤ length xs → k ≤ n → reverse (end_turned xs n k) ≡ drop k (take n (reverse xs)) ++ take k (take n (reverse xs)) ++ drop n (reverse xs)
roll_view xs n k h g =
    let p = take (length xs - n) xs in
    let t = drop (length xs - n) xs in
    let lt : length t ≡ n = length-drop (length xs - n) xs ∙ omega arith in
    let kt : k ≤ length t = rw lt g in
    let a : reverse t ≡ take n (reverse xs) = turned xs n h in
    let b : reverse p ≡ drop n (reverse xs) = shrunk xs n h in
    let d : reverse (drop (length t - k) t) ≡ take k (reverse t) = turned t k kt in
    let e : reverse (take (length t - k) t) ≡ drop k (reverse t) = shrunk t k kt in
    reverse-append p (drop (length t - k) t ++ take (length t - k) t)
    ∙ ap (λ ys. ys ++ reverse p) (reverse-append (drop (length t - k) t) (take (length t - k) t))
    ∙ ap (λ ys. (ys ++ reverse (drop (length t - k) t)) ++ reverse p) e
    ∙ ap (λ ys. (drop k (reverse t) ++ ys) ++ reverse p) d
    ∙ ap (λ ys. (drop k ys ++ take k ys) ++ reverse p) a
    ∙ ap (λ ys. (drop k (take n (reverse xs)) ++ take k (take n (reverse xs))) ++ ys) b

pub turned_back : {A : Type 0} (xs : List A) → reverse (reverse xs) ≡ xs
turned_back xs = reverse-reverse xs

-- the last item replaced
pub last_replaced : {A : Type 0} (xs : List A) (y : A) → 0 < length xs → set xs (length xs - 1) y ≡ take (length xs - 1) xs ++ y ∷ []
last_replaced xs y h =
    let i = length xs - 1 in
    sym (take_all (length xs) (set xs i y) (omega (arith, length-set xs i y))) ∙ take-set_at xs i (length xs) y (omega arith) (omega arith)

-- the same, where the list is seen from its end
pub newest_replaced : {A : Type 0} (xs : List A) (y : A) → 0 < length xs → reverse (set xs (length xs - 1) y) ≡ y ∷ drop 1 (reverse xs)
newest_replaced xs y h =
    let one : length xs - (length xs - 1) ≡ 1 = omega arith in
    ap reverse (last_replaced xs y h) ∙ reverse-append (take (length xs - 1) xs) (y ∷ []) ∙ ap (λ ys. y ∷ ys) (shrunk xs 1 (omega arith))
