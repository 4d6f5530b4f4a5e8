-- Digits in a base: all but the last are those of the quotient.
use Rattle.std.proofs.Common.{◌≡◌, ◌≢◌, ℕ, zero, suc, ◌-◌, ◌*◌, ◌/◌, ◌%◌, ◌^◌, ◌<◌, ◌≤◌, ◌==◌, Bool, true, false, cond, List, [], ◌∷◌, ◌++◌, refl, sym, ap, ◌∙◌, append_assoc, arith}
use Rattle.std.specs.Fmt.{digits, digit_glyph, digits_onto}
use Rattle.std.proofs.Math.Nat.{div-lt_iff_lt-mul, mul-le-mul_left}
use Rattle.text_ops.specs.Numbers.{digits_within}

module _ (base : ℕ) where
  quotient_is : (n : ℕ) → n / base ≢ 0 → (n / base == 0) ≡ false
  quotient_is n h = grind arith

  quotient_none : (n : ℕ) → n / base ≡ 0 → (n / base == 0) ≡ true
  quotient_none n h = grind arith

  -- what stands behind the digits
  behind : (k n : ℕ) (acc : List ℕ) → digits_onto k base true n acc ≡ digits_onto k base true n [] ++ acc
  behind zero n acc = refl
  behind (suc k) n acc = go (n / base == 0) (behind k (n / base) (digit_glyph true (n % base) ∷ acc)) (behind k (n / base) (digit_glyph true (n % base) ∷ []))
    where
      g : ℕ
      g = digit_glyph true (n % base)

      ds : List ℕ
      ds = digits_onto k base true (n / base) []

      go : (b : Bool) → digits_onto k base true (n / base) (g ∷ acc) ≡ ds ++ g ∷ acc → digits_onto k base true (n / base) (g ∷ []) ≡ ds ++ g ∷ []
          → cond b (g ∷ acc) (digits_onto k base true (n / base) (g ∷ acc)) ≡ cond b (g ∷ []) (digits_onto k base true (n / base) (g ∷ [])) ++ acc
      go true p q = refl
      go false p q = p ∙ sym (append_assoc ds (g ∷ []) acc) ∙ ap (λ xs. xs ++ acc) (sym q)

  one_more : (k n : ℕ) → n / base ≢ 0 → digits_onto (suc k) base true n [] ≡ digits_onto k base true (n / base) [] ++ digit_glyph true (n % base) ∷ []
  one_more k n h =
      ap (λ b. cond b (digit_glyph true (n % base) ∷ []) (digits_onto k base true (n / base) (digit_glyph true (n % base) ∷ []))) (quotient_is n h)
      ∙ behind k (n / base) (digit_glyph true (n % base) ∷ [])

  one_alone : (k n : ℕ) → n / base ≡ 0 → digits_onto (suc k) base true n [] ≡ digit_glyph true (n % base) ∷ []
  one_alone k n h = ap (λ b. cond b (digit_glyph true (n % base) ∷ []) (digits_onto k base true (n / base) (digit_glyph true (n % base) ∷ []))) (quotient_none n h)

  smaller : (k n : ℕ) → 2 ≤ base → n < 2 ^ suc k → n / base < 2 ^ k
  smaller k n h l =
      let more : 2 ^ k * 2 ≤ 2 ^ k * base = mul-le-mul_left (2 ^ k) h in
      (div-lt_iff_lt-mul {k = base} {x = n} {y = 2 ^ k} (omega arith)).1 (omega arith)

  -- one bit and more are enough
  enough : (k j n : ℕ) → 2 ≤ base → 0 < k → k ≤ j → n < 2 ^ k → digits_onto k base true n [] ≡ digits_onto j base true n []
  enough zero j n h p q l = absurd (omega arith)
  enough (suc k) zero n h p q l = absurd (omega arith)
  enough (suc k) (suc j) n h p q l = go (n / base == 0) refl (λ some low. enough k j (n / base) h (positive k (n / base) some low) (omega arith) low)
    where
      positive : (k m : ℕ) → m ≢ 0 → m < 2 ^ k → 0 < k
      positive zero m h l = absurd (h (omega arith))
      positive (suc k) m h l = omega arith

      go : (b : Bool) → (n / base == 0) ≡ b → (n / base ≢ 0 → n / base < 2 ^ k → digits_onto k base true (n / base) [] ≡ digits_onto j base true (n / base) [])
          → digits_onto (suc k) base true n [] ≡ digits_onto (suc j) base true n []
      go true e later = one_alone k n (grind arith) ∙ sym (one_alone j n (grind arith))
      go false e later =
          let some : n / base ≢ 0 = grind arith in
          one_more k n some ∙ ap (λ ds. ds ++ digit_glyph true (n % base) ∷ []) (later some (smaller k n h l)) ∙ sym (one_more j n some)

  -- ---- as the code has them

  pub last_digit : (bits n : ℕ) (text : List ℕ) → 0 < bits → n / base ≡ 0 → text ++ digit_glyph true (n % base) ∷ [] ≡ text ++ digits_within bits base n
  unfolding digits_within
  last_digit zero n text p h = absurd (omega arith)
  last_digit (suc k) n text p h = ap (λ ds. text ++ ds) (sym (one_alone k n h))

  pub first_digits : (bits n : ℕ) (text : List ℕ) → 0 < bits → n / base ≢ 0 → (text ++ digits_within (bits - 1) base (n / base)) ++ digit_glyph true (n % base) ∷ [] ≡ text ++ digits_within bits base n
  unfolding digits_within
  first_digits zero n text p h = absurd (omega arith)
  first_digits (suc k) n text p h =
      let e : suc k - 1 ≡ k = omega arith in
      rw e (append_assoc text (digits_onto k base true (n / base) []) (digit_glyph true (n % base) ∷ []) ∙ ap (λ ds. text ++ ds) (sym (one_more k n h)))

  pub shorter : (bits n : ℕ) → 2 ≤ base → 0 < bits → n < 2 ^ bits → n / base < 2 ^ (bits - 1)
  shorter zero n h p l = absurd (omega arith)
  shorter (suc k) n h p l = let e : suc k - 1 ≡ k = omega arith in rw e (smaller k n h l)

  pub some_bits : (bits n : ℕ) → 2 ≤ base → n / base ≢ 0 → n < 2 ^ bits → 0 < bits - 1
  some_bits zero n h q l = absurd (q (omega (arith, smaller 0 n h (omega arith))))
  some_bits (suc zero) n h q l = absurd (q (omega (arith, smaller 0 n h l)))
  some_bits (suc (suc k)) n h q l = omega arith

  pub enough_bits : (bits n : ℕ) → 2 ≤ base → 0 < bits → bits ≤ 64 → n < 2 ^ bits → digits_within bits base n ≡ digits base true n
  unfolding digits_within digits
  enough_bits bits n h p q l = enough bits 64 n h p q l
