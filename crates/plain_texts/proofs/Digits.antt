-- Digits without the zeros at their end: none of 0, and of any other number the first before those of the rest.
use Rattle.std.proofs.Common.{◌≡◌, ◌≢◌, ℕ, zero, suc, ◌+◌, ◌-◌, ◌*◌, ◌/◌, ◌%◌, ◌^◌, ◌<◌, ◌==◌, Bool, true, false, cond, List, [], ◌∷◌, ◌++◌, refl, sym, ap, ◌∙◌, append_assoc, append-nil, arith, div-add-mod'}
use Rattle.std.proofs.Math.Nat.{zero-div, zero-mod, div-lt_iff_lt-mul}
use Rattle.std.proofs.lemmas.Nat.{mod_below}
use Rattle.std.proofs.Math.Nat.{pow-le-pow_right}
use Rattle.plain_texts.specs.Reals.{digit_before, digits_to_the_last}

some_power : (n : ℕ) → 0 < 10 ^ n
some_power n = let least = pow-le-pow_right {n = 10} (omega arith) {i = 0} {j = n} (omega arith) in omega arith

pub first_unit_positive : (n : ℕ) → 0 < 10 ^ (n - 1)
first_unit_positive n = some_power (n - 1)

pub no_digits : (n : ℕ) → digits_to_the_last n 0 ≡ []
unfolding digits_to_the_last
no_digits zero = refl
no_digits (suc n) =
    ap (λ d. digit_before d (digits_to_the_last n (0 % 10 ^ n))) (zero-div (10 ^ n))
    ∙ ap (λ m. digit_before 0 (digits_to_the_last n m)) (zero-mod (10 ^ n))
    ∙ ap (digit_before 0) (no_digits n)

-- a digit falls away only where it is 0 and none follows
fallen : (d : ℕ) (es : List ℕ) → digit_before d es ≡ [] → (d ≡ 0) × (es ≡ [])
fallen d [] e = go (d == 0) refl e
  where
    nothing : List ℕ
    nothing = []

    go : (b : Bool) → (d == 0) ≡ b → cond {A = List ℕ} b [] ((48 + d) ∷ []) ≡ [] → (d ≡ 0) × nothing ≡ nothing
    go true p q = (grind arith, refl)
    go false p q = cc
fallen d (x ∷ es) e = cc

none_left : (n m : ℕ) → m < 10 ^ n → digits_to_the_last n m ≡ [] → m ≡ 0
unfolding digits_to_the_last
none_left zero m h e = omega arith
none_left (suc n) m h e =
    let (d, es) = fallen (m / 10 ^ n) (digits_to_the_last n (m % 10 ^ n)) e in
    let r : m % 10 ^ n ≡ 0 = none_left n (m % 10 ^ n) (mod_below m (10 ^ n) (some_power n)) es in
    let whole = div-add-mod' m (10 ^ n) in
    omega (arith, ap (λ k. 10 ^ n * k) d)

stays : (d : ℕ) (es : List ℕ) → (es ≡ [] → d ≢ 0) → digit_before d es ≡ (48 + d) ∷ es
stays d [] h = go (d == 0) refl
  where
    go : (b : Bool) → (d == 0) ≡ b → cond {A = List ℕ} b [] ((48 + d) ∷ []) ≡ (48 + d) ∷ []
    go true p = absurd (h refl (grind arith))
    go false p = refl
stays d (x ∷ es) h = refl

first_digit : (n m : ℕ) → m ≢ 0 → m < 10 ^ suc n → digits_to_the_last (suc n) m ≡ (48 + m / 10 ^ n) ∷ digits_to_the_last n (m % 10 ^ n)
unfolding digits_to_the_last
first_digit n m h l = stays (m / 10 ^ n) (digits_to_the_last n (m % 10 ^ n)) not_both
  where
    not_both : digits_to_the_last n (m % 10 ^ n) ≡ [] → m / 10 ^ n ≢ 0
    not_both e d =
        let r : m % 10 ^ n ≡ 0 = none_left n (m % 10 ^ n) (mod_below m (10 ^ n) (some_power n)) e in
        let whole = div-add-mod' m (10 ^ n) in
        h (omega (arith, ap (λ k. 10 ^ n * k) d))

-- a number that isn't 0 has places
pub some_places : (n m : ℕ) → m ≢ 0 → m < 10 ^ n → 0 < n
some_places zero m h l = absurd (h (omega arith))
some_places (suc n) m h l = omega arith

below_tenfold : (n m : ℕ) → m ≢ 0 → m < 10 ^ n → m / 10 ^ (n - 1) < 10
below_tenfold zero m h l = absurd (h (omega arith))
below_tenfold (suc n) m h l = let e : suc n - 1 ≡ n = omega arith in rw e ((div-lt_iff_lt-mul {k = 10 ^ n} {x = m} {y = 10} (some_power n)).1 (omega arith))

pub digit_small : (n m unit : ℕ) → m ≢ 0 → m < 10 ^ n → unit ≡ 10 ^ (n - 1) → m / unit < 10
digit_small n m unit h l e = rw e (below_tenfold n m h l)

pub rest_small : (n m : ℕ) → m % 10 ^ n < 10 ^ n
rest_small n m = mod_below m (10 ^ n) (some_power n)

digits_left : (n m : ℕ) → m ≢ 0 → m < 10 ^ n → digits_to_the_last n m ≡ (48 + m / 10 ^ (n - 1)) ∷ digits_to_the_last (n - 1) (m % 10 ^ (n - 1))
digits_left zero m h l = absurd (h (omega arith))
digits_left (suc n) m h l = let e : suc n - 1 ≡ n = omega arith in rw e (first_digit n m h l)

-- ---- a text that grows by them

pub nothing_more : (n m : ℕ) (text : List ℕ) → m ≡ 0 → text ≡ text ++ digits_to_the_last n m
nothing_more n m text e = sym (ap (λ k. text ++ digits_to_the_last n k) e ∙ ap (λ ds. text ++ ds) (no_digits n) ∙ append-nil text)

-- the first digit, then those of the rest
pub grows_by_one : (n m unit : ℕ) (text : List ℕ) → m ≢ 0 → m < 10 ^ n → unit ≡ 10 ^ (n - 1) →
    (text ++ (48 + m / unit) ∷ []) ++ digits_to_the_last (n - 1) (m % unit) ≡ text ++ digits_to_the_last n m
grows_by_one n m unit text h l e = rw e (append_assoc text ((48 + m / 10 ^ (n - 1)) ∷ []) (digits_to_the_last (n - 1) (m % 10 ^ (n - 1))) ∙ ap (λ ds. text ++ ds) (sym (digits_left n m h l)))
