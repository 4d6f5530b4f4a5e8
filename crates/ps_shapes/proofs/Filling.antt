-- Bits filled range by range.
use Rattle.std.proofs.Common.{◌≡◌, ℕ, ◌+◌, ◌-◌, ◌*◌, ◌/◌, ◌%◌, ◌<◌, ◌≤◌, ◌&&◌, ◌||◌, inl, inr, Bool, true, false, cond, List, length, get_or, set, take, drop, ◌++◌, nat_eq, nat_le, nat_lt, refl, ap, subst, sym, ◌∙◌, arith}
use Rattle.std.specs.Int.{bit_at}
use Rattle.std.proofs.Math.Seq.{take-append_seam}
use Rattle.std.proofs.lemmas.Bool.{cases_eq}
use Rattle.std.proofs.lemmas.Grind.{get_or-set_at}
use Rattle.std.proofs.lemmas.List.{get_or-set_other, length-set}
use Rattle.std.proofs.lemmas.Nat.Bits.{bit_at_ones, bit_at-zero}
use Rattle.ps_shapes.specs.Bits.{bit, IsFilled}
use Rattle.ps_shapes.proofs.Ranges.{in_range, out_range, same_range, joined_range}

-- what the bits of a byte become, counted from the highest
abbrev pub Becomes : ℕ → ℕ → Bool → ℕ → ℕ → Type 0
Becomes first past ink byte new = (k : ℕ) → k < 8 → nat_eq (bit_at new (7 - k)) 1 ≡ cond (nat_le first k && nat_lt k past) ink (nat_eq (bit_at byte (7 - k)) 1)

pub filled_none : (xs : List ℕ) (f p : ℕ) (ink : Bool) → p ≤ f → IsFilled xs xs f p ink
filled_none xs f p ink h = record {
  size = refl;
  bits = λ n _. ap (λ b. cond b ink (bit xs n)) (sym (out_range f p n (λ a b. omega arith)));
}

cond_or : (p q : Bool) (i b : Bool) → cond q i (cond p i b) ≡ cond (p || q) i b
cond_or true true i b = refl
cond_or true false i b = refl
cond_or false true i b = refl
cond_or false false i b = refl

-- one range after another
pub filled_more : (xs ys zs : List ℕ) (f m p : ℕ) (ink : Bool) → IsFilled xs ys f m ink → IsFilled ys zs m p ink → f ≤ m → m ≤ p → IsFilled xs zs f p ink
filled_more xs ys zs f m p ink a b h i = record {
  size = b.size ∙ a.size;
  bits = λ n k.
      let k' : n < 8 * length ys = rw a.size k in
      b.bits n k' ∙ ap (cond (nat_le m n && nat_lt n p) ink) (a.bits n k)
      ∙ cond_or (nat_le f n && nat_lt n m) (nat_le m n && nat_lt n p) ink (bit xs n)
      ∙ ap (λ t. cond t ink (bit xs n)) (joined_range f m p n h i);
}

pub filled_cast : (xs ys : List ℕ) (f p f' p' : ℕ) (ink : Bool) → IsFilled xs ys f p ink → f ≡ f' → p ≡ p' → IsFilled xs ys f' p' ink
filled_cast xs ys f p f' p' ink h e g =
    subst (λ (q : ℕ). IsFilled xs ys f' q ink) g (subst (λ (q : ℕ). IsFilled xs ys q p ink) e h)

-- a write of one byte
pub filled_byte : (xs : List ℕ) (at v first past f p : ℕ) (ink : Bool) → at < length xs → past ≤ 8 → f ≡ 8 * at + first → p ≡ 8 * at + past → Becomes first past ink (get_or xs at 0) v → IsFilled xs (set xs at v) f p ink
filled_byte xs at v first past f p ink h fits ef ep change = record {
  size = length-set xs at v;
  bits = λ n k.
      elim (cases_eq (n / 8) at) [
        | inl e ↦
            ap (λ z. nat_eq (bit_at z (7 - n % 8)) 1) (get_or-set_at xs at (n / 8) v 0 e h)
            ∙ change (n % 8) (omega arith)
            ∙ ap (λ z. cond (nat_le first (n % 8) && nat_lt (n % 8) past) ink (nat_eq (bit_at z (7 - n % 8)) 1)) (ap (λ j. get_or xs j 0) (sym e))
            ∙ ap (λ t. cond t ink (bit xs n)) (same_range first past (n % 8) f p n (λ a b. (omega arith, omega arith)) (λ a b. (omega arith, omega arith)))
        | inr e ↦
            ap (λ z. nat_eq (bit_at z (7 - n % 8)) 1) (get_or-set_other xs at (n / 8) v 0 e)
            ∙ ap (λ t. cond t ink (bit xs n)) (sym (out_range f p n (λ a b. e (omega arith))))
      ];
}

whole_bit : (ink : Bool) (k : ℕ) → k < 8 → nat_eq (bit_at (cond ink 255 0) (7 - k)) 1 ≡ ink
whole_bit true k h = ap (λ z. nat_eq z 1) (bit_at_ones 8 (7 - k) (omega arith))
whole_bit false k h = ap (λ z. nat_eq z 1) (bit_at-zero (7 - k))

-- a whole byte
pub whole : (ink : Bool) (byte : ℕ) → Becomes 0 8 ink byte (cond ink 255 0)
whole ink byte = λ k h. whole_bit ink k h ∙ ap (λ t. cond t ink (nat_eq (bit_at byte (7 - k)) 1)) (sym (in_range 0 8 k (omega arith) h))

-- what a write through the slice of a `Vec` leaves
pub written : (len : ℕ) (new old : List ℕ) → len ≡ length new → take len (new ++ drop (length new) old) ≡ new
written len new old e = rw e (take-append_seam new (drop (length new) old))
