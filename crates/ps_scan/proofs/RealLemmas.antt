-- Significands and powers of ten.
use Rattle.std.proofs.Common.{◌≡◌, ℕ, suc, ◌+◌, ◌-◌, ◌*◌, ◌^◌, ◌<◌, ◌≤◌, inl, inr, min, Bool, true, false, ◌&&◌, cond, eqb, ltb, List, [], ◌∷◌, ◌++◌, length, take, drop, get_or, length-append, refl, ap, sym, ◌∙◌, arith}
use Rattle.std.specs.Prelude.{ℤ, pos, negsuc, ◌+ℤ◌, ◌-ℤ◌, ◌<ℤ◌, Ok, Err, filter}
use Rattle.std.specs.Char.{is_ascii_digit, digit_value}
use Rattle.std.specs.List.{prefix_len, after_first}
use Rattle.std.specs.Str.Parse.{digits_value}
use Rattle.std.proofs.lemmas.Bool.{cases_lt}
use Rattle.std.proofs.lemmas.Int.{ints}
use Rattle.std.proofs.lemmas.Int.Digits.{digits_value_push}
use Rattle.std.proofs.lemmas.Bool.Decides.{nat_tests}
use Rattle.std.proofs.lemmas.List.{take_all, take-append-le, append-nil}
use Rattle.std.proofs.lemmas.List.Elements.{filter_more}
use Rattle.std.proofs.Math.Nat.{pow-suc, pow-le-pow_right}
use Rattle.ps_fixed.specs.Decimals.{signed_by, decimal_of}
use Rattle.ps_fixed.proofs.DecimalProofs.{too_great, too_small, nothing}
use Rattle.ps_scan.specs.Numbers.{is_negative, unsigned, is_point, mantissa, exponent_value, significant, significand, scale, real_value}
use Rattle.ps_scan.specs.Significands.{digit_behind, IsSignificand, capped_exponent, IsNear}
use Rattle.ps_scan.specs.declared.reals.Significand.{Significand}

one_more : (n : ℕ) → 1 + n ≡ suc n
one_more n = omega arith

-- a digit behind a number below a power of ten
pub power_step : (value digit k : ℕ) → value < 10 ^ k → digit < 10 → value * 10 + digit < 10 ^ (k + 1)
power_step value digit k h d = let e : 10 ^ (k + 1) ≡ 10 ^ k * 10 = ap (λ (j : ℕ). 10 ^ j) (omega arith) ∙ pow-suc 10 k in omega arith

pub power_limit : (k : ℕ) → k ≤ 18 → 10 ^ k ≤ 10 ^ 18
power_limit k h = pow-le-pow_right {n = 10} (omega arith) {i = k} {j = 18} h

-- powers of ten beyond the range, and those that round to nothing
decimal_beyond : (negative : Bool) (m : ℕ) (z : ℤ) → 0 < m → pos 12 <ℤ z → decimal_of negative m z ≡ Err (record {})
decimal_beyond negative m (pos n) p h = too_great negative m n p (omega (arith, ints))
decimal_beyond negative m (negsuc n) p h = absurd (omega (arith, ints))

decimal_below : (negative : Bool) (m : ℕ) (z : ℤ) → m < 10 ^ 18 → z <ℤ negsuc 37 → decimal_of negative m z ≡ Ok (record { count = pos 0 })
decimal_below negative m (pos n) p h = absurd (omega (arith, ints))
decimal_below negative m (negsuc n) p h = too_small negative m (suc n) p (omega (arith, ints))

pub decimal_near : (negative : Bool) (m : ℕ) (x y : ℤ) → m < 10 ^ 18 → IsNear x y → decimal_of negative m x ≡ decimal_of negative m y
decimal_near negative m x y small (inl e) = ap (decimal_of negative m) e
decimal_near negative m x y small (inr (inl h)) =
    elim (cases_lt 0 m) [
      | inl some ↦ decimal_beyond negative m x some h.0 ∙ sym (decimal_beyond negative m y some h.1)
      | inr none ↦
          let zero : m ≡ 0 = omega arith in
          nothing negative m x zero ∙ sym (nothing negative m y zero)
    ]
decimal_near negative m x y small (inr (inr h)) = decimal_below negative m x small h.0 ∙ sym (decimal_below negative m y small h.1)

-- a cap on an exponent far beyond the range changes nothing
signed_near : (negative : Bool) (e f d : ℕ) → f < 2 ^ 63 → d < 2 ^ 63 →
    IsNear (signed_by negative (min e (2 ^ 64 - 1)) -ℤ pos f +ℤ pos d) (signed_by negative e -ℤ pos f +ℤ pos d)
signed_near negative e f d hf hd =
    elim (cases_lt (2 ^ 64 - 1) e) [
      | inl above ↦ beyond negative above
      | inr within ↦ inl (ap (λ (k : ℕ). signed_by negative k -ℤ pos f +ℤ pos d) (omega arith))
    ]
  where
    beyond : (negative : Bool) → 2 ^ 64 - 1 < e → IsNear (signed_by negative (min e (2 ^ 64 - 1)) -ℤ pos f +ℤ pos d) (signed_by negative e -ℤ pos f +ℤ pos d)
    beyond true above =
        let cut : min e (2 ^ 64 - 1) ≡ 2 ^ 64 - 1 = omega arith in
        inr (inr (rw cut (omega (arith, ints)), omega (arith, ints)))
    beyond false above =
        let cut : min e (2 ^ 64 - 1) ≡ 2 ^ 64 - 1 = omega arith in
        inr (inl (rw cut (omega (arith, ints)), omega (arith, ints)))

cond_true : {X : Type 0} (b : Bool) (x y : X) → b ≡ true → cond b x y ≡ x
cond_true true x y h = refl
cond_true false x y h = cc

cond_false : {X : Type 0} (b : Bool) (x y : X) → b ≡ false → cond b x y ≡ y
cond_false true x y h = cc
cond_false false x y h = refl

-- a number's digits without zeros in front
pub strip : List ℕ → List ℕ
strip ds = drop (prefix_len (λ d. eqb d 48) ds) ds

strip_step : (c b : ℕ) (cs : List ℕ) (zero : Bool) → eqb c 48 ≡ zero →
    strip (cs ++ (b ∷ [])) ≡ cond (eqb (length (strip cs)) 0 && eqb b 48) [] (strip cs ++ (b ∷ [])) →
    strip (c ∷ (cs ++ (b ∷ []))) ≡ cond (eqb (length (strip (c ∷ cs))) 0 && eqb b 48) [] (strip (c ∷ cs) ++ (b ∷ []))
unfolding strip
strip_step c b cs true e behind = rw e (rw (one_more (prefix_len (λ d. eqb d 48) cs), one_more (prefix_len (λ d. eqb d 48) (cs ++ (b ∷ [])))) behind)
strip_step c b cs false e behind = rw e (let some : eqb (suc (length cs)) 0 ≡ false = grind (arith, nat_tests) in rw some refl)

strip_one : (b : ℕ) (zero : Bool) → eqb b 48 ≡ zero → strip (b ∷ []) ≡ cond zero [] (b ∷ [])
unfolding strip
strip_one b true e = rw e refl
strip_one b false e = rw e refl

pub strip_push : (ds : List ℕ) (b : ℕ) → strip (ds ++ (b ∷ [])) ≡ cond (eqb (length (strip ds)) 0 && eqb b 48) [] (strip ds ++ (b ∷ []))
unfolding strip
strip_push [] b = strip_one b (eqb b 48) refl
strip_push (c ∷ cs) b = strip_step c b cs (eqb c 48) refl (strip_push cs b)

pub value_push : (xs : List ℕ) (b v n : ℕ) → v ≡ digits_value 10 (take 18 xs) → n ≡ length xs →
    cond (ltb n 18) (v * 10 + digit_value b) v ≡ digits_value 10 (take 18 (xs ++ (b ∷ [])))
value_push xs b v n is count =
    elim (cases_lt n 18) [
      | inl below ↦
          let test : ltb n 18 ≡ true = grind (arith, nat_tests) in
          let all : take 18 xs ≡ xs = take_all 18 xs (omega arith) in
          let more : take 18 (xs ++ (b ∷ [])) ≡ xs ++ (b ∷ []) = take_all 18 (xs ++ (b ∷ [])) (omega (arith, length-append xs (b ∷ []))) in
          rw test (ap (λ (k : ℕ). k * 10 + digit_value b) (is ∙ ap (digits_value 10) all) ∙ sym (ap (digits_value 10) more ∙ digits_value_push 10 xs b))
      | inr above ↦
          let test : ltb n 18 ≡ false = grind (arith, nat_tests) in
          rw test (is ∙ ap (digits_value 10) (sym (take-append-le 18 xs (b ∷ []) (omega arith))))
    ]

strip_is : (m : List ℕ) → significant m ≡ strip (filter is_ascii_digit m)
unfolding strip
strip_is m = refl

digit_is_zero : (b : ℕ) → is_ascii_digit b ≡ true → eqb (digit_value b) 0 ≡ eqb b 48
digit_is_zero b h = grind (arith, nat_tests)

pushed : (found : Significand) (xs : List ℕ) (b d : ℕ) → d ≡ digit_value b → found.value ≡ digits_value 10 (take 18 xs) → found.digits ≡ length xs →
    cond (ltb found.digits 18) (found.value * 10 + d) found.value ≡ digits_value 10 (take 18 (xs ++ (b ∷ [])))
pushed found xs b d same is count = ap (λ (k : ℕ). cond (ltb found.digits 18) (found.value * 10 + k) found.value) same ∙ value_push xs b found.value found.digits is count

no_digits : (xs : List ℕ) → length xs ≡ 0 → xs ≡ []
no_digits [] h = refl
no_digits (x ∷ xs) h = absurd (omega arith)

behind_step : (found : Significand) (xs : List ℕ) (b d : ℕ) (none zero : Bool) → d ≡ digit_value b → eqb found.digits 0 ≡ none → eqb d 0 ≡ zero → eqb b 48 ≡ zero →
    eqb (length xs) 0 ≡ none → found.value ≡ digits_value 10 (take 18 xs) → found.digits ≡ length xs →
    let ys = cond (eqb (length xs) 0 && eqb b 48) [] (xs ++ (b ∷ [])) in
    ((digit_behind found d).value ≡ digits_value 10 (take 18 ys)) × ((digit_behind found d).digits ≡ length ys)
behind_step found xs b d true true same n z e m is count =
    let empty : length xs ≡ 0 = grind (arith, nat_tests) in
    rw (n, z, m, e) (is ∙ ap (λ (ds : List ℕ). digits_value 10 (take 18 ds)) (no_digits xs empty), count ∙ empty)
behind_step found xs b d true false same n z e m is count =
    rw (n, z, m, e) (pushed found xs b d same is count, omega (arith, length-append xs (b ∷ [])))
behind_step found xs b d false zero same n z e m is count =
    rw (n, m) (pushed found xs b d same is count, omega (arith, length-append xs (b ∷ [])))

pub significand_step : (found : Significand) (m : List ℕ) (i d : ℕ) → i < length m → d ≡ digit_value (get_or m i 0) → is_ascii_digit (get_or m i 0) ≡ true →
    IsSignificand found (take i m) → IsSignificand (digit_behind found d) (take (i + 1) m)
significand_step found m i d within same digit is =
    let b = get_or m i 0 in
    let xs = strip (filter is_ascii_digit (take i m)) in
    let more : filter is_ascii_digit (take (i + 1) m) ≡ filter is_ascii_digit (take i m) ++ (b ∷ []) =
    filter_more is_ascii_digit m i 0 within ∙ ap (λ (t : List ℕ). filter is_ascii_digit (take i m) ++ t) (cond_true (is_ascii_digit b) _ _ digit) in
    let now : significant (take (i + 1) m) ≡ cond (eqb (length xs) 0 && eqb b 48) [] (xs ++ (b ∷ [])) =
    strip_is (take (i + 1) m) ∙ ap strip more ∙ strip_push (filter is_ascii_digit (take i m)) b in
    let value : found.value ≡ digits_value 10 (take 18 xs) = is.value ∙ ap (λ (ds : List ℕ). digits_value 10 (take 18 ds)) (strip_is (take i m)) in
    let count : found.digits ≡ length xs = is.digits ∙ ap length (strip_is (take i m)) in
    let zero : eqb d 0 ≡ eqb b 48 = ap (λ (k : ℕ). eqb k 0) same ∙ digit_is_zero b digit in
    let step = behind_step found xs b d (eqb found.digits 0) (eqb b 48) same refl zero refl (ap (λ (k : ℕ). eqb k 0) (sym count)) value count in
    record { value = step.0 ∙ ap (λ (ds : List ℕ). digits_value 10 (take 18 ds)) (sym now); digits = step.1 ∙ ap length (sym now) }

pub significand_other : (found : Significand) (m : List ℕ) (i : ℕ) → i < length m → is_ascii_digit (get_or m i 0) ≡ false →
    IsSignificand found (take i m) → IsSignificand found (take (i + 1) m)
significand_other found m i within other is =
    let same : filter is_ascii_digit (take (i + 1) m) ≡ filter is_ascii_digit (take i m) =
    filter_more is_ascii_digit m i 0 within ∙ ap (λ (t : List ℕ). filter is_ascii_digit (take i m) ++ t) (cond_false (is_ascii_digit (get_or m i 0)) _ _ other) ∙ append-nil _ in
    let now : significant (take (i + 1) m) ≡ significant (take i m) = strip_is (take (i + 1) m) ∙ ap strip same ∙ sym (strip_is (take i m)) in
    record { value = is.value ∙ ap (λ (ds : List ℕ). digits_value 10 (take 18 ds)) (sym now); digits = is.digits ∙ ap length (sym now) }

behind_more : (found : Significand) (d : ℕ) (none : Bool) → (eqb found.digits 0 && eqb d 0) ≡ none → (digit_behind found d).digits ≤ found.digits + 1
behind_more found d true h = rw h (omega arith)
behind_more found d false h = rw h (omega arith)

pub behind_digits : (found : Significand) (d : ℕ) → (digit_behind found d).digits ≤ found.digits + 1
behind_digits found d = behind_more found d (eqb found.digits 0 && eqb d 0) refl

exponent_near : (bs : List ℕ) (f d : ℕ) → f < 2 ^ 63 → d < 2 ^ 63 →
    IsNear (capped_exponent (2 ^ 64 - 1) bs -ℤ pos f +ℤ pos d) (exponent_value bs -ℤ pos f +ℤ pos d)
exponent_near [] f d hf hd = inl refl
exponent_near (mark ∷ bs) f d hf hd = signed_near (is_negative bs) (digits_value 10 (unsigned bs)) f d hf hd

-- a power of ten near the one that was read gives the value
pub real_is : (row front exponent : List ℕ) (found : Significand) (f d : ℕ) (near : ℤ) →
    front ≡ mantissa row → exponent ≡ drop (length (mantissa row)) (unsigned row) → IsSignificand found front → found.value < 10 ^ 18 →
    IsNear near (capped_exponent (2 ^ 64 - 1) exponent -ℤ pos f +ℤ pos d) → f ≡ length (after_first is_point front) → d ≡ found.digits - 18 → f < 2 ^ 63 → d < 2 ^ 63 →
    decimal_of (is_negative row) found.value near ≡ real_value row
unfolding real_value
real_is row front exponent found f d near front_is exponent_is is small near_is f_is d_is hf hd =
    let power = exponent_near exponent f d hf hd in
    decimal_near (is_negative row) found.value near (capped_exponent (2 ^ 64 - 1) exponent -ℤ pos f +ℤ pos d) small near_is
    ∙ decimal_near (is_negative row) found.value (capped_exponent (2 ^ 64 - 1) exponent -ℤ pos f +ℤ pos d) (exponent_value exponent -ℤ pos f +ℤ pos d) small power
    ∙ ap (λ (v : ℕ). decimal_of (is_negative row) v (exponent_value exponent -ℤ pos f +ℤ pos d)) (is.value ∙ ap significand front_is)
    ∙ ap (λ (k : ℕ). decimal_of (is_negative row) (significand (mantissa row)) (exponent_value exponent -ℤ pos k +ℤ pos d)) (f_is ∙ ap (λ (m : List ℕ). length (after_first is_point m)) front_is)
    ∙ ap (λ (k : ℕ). decimal_of (is_negative row) (significand (mantissa row)) (exponent_value exponent -ℤ pos (length (after_first is_point (mantissa row))) +ℤ pos k))
    (d_is ∙ ap (λ (k : ℕ). k - 18) (is.digits ∙ ap (λ (m : List ℕ). length (significant m)) front_is))
    ∙ ap (λ (e : List ℕ). decimal_of (is_negative row) (significand (mantissa row)) (scale (mantissa row) (exponent_value e))) exponent_is
