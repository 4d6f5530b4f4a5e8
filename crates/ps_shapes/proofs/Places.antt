-- A sheet's pixels among the bits of its bytes.
use Rattle.std.proofs.Common.{◌≡◌, ℕ, ◌+◌, ◌-◌, ◌*◌, ◌/◌, ◌%◌, ◌^◌, ◌<◌, ◌≤◌, ◌&&◌, inl, inr, Bool, true, false, cond, List, length, get_or, nat_eq, nat_le, nat_lt, bit_and, refl, ap, subst, sym, ◌∙◌, arith}
use Rattle.std.specs.Int.{bit_at}
use Rattle.std.proofs.lemmas.Bool.{cases_eq, cases_lt, cases_order, and_from, and_parts, eqb-true, eq-eqb, leb-true, le-leb, ltb-true, lt-ltb, le-ltb, and_right}
use Rattle.std.proofs.lemmas.Nat.{row_fits}
use Rattle.std.proofs.lemmas.Nat.Bits.{shr_and_one}
use Rattle.ps_shapes.specs.Bits.{bit, dot_of, stride_of, IsFilled, IsRows, IsPacked}
use Rattle.ps_shapes.specs.Span.{holds}
use Rattle.ps_shapes.specs.Sheet.{Sheet, drawn, pixel, repainted}
use Rattle.ps_shapes.specs.declared.span.Span.{Span}
use Rattle.ps_shapes.proofs.Ranges.{in_range, out_range, range_true, bool_same}
use Rattle.ps_shapes.proofs.Drawn.{pixel_drawn, drawn_same}

-- a place in one row isn't in a range of another
pub same_row : (s r y x first past : ℕ) → x < s → past ≤ s → r * s + first ≤ y * s + x → y * s + x < r * s + past → r ≡ y
same_row s r y x first past p q low high =
    elim (cases_order r y) [
      | inl e ↦ e
      | inr h ↦ elim h [
        | inl i ↦ absurd (omega (arith, row_fits r s y s i (omega arith)))
        | inr i ↦ absurd (omega (arith, row_fits y s r s i (omega arith)))
      ]
    ]

pub place_test : (s x y : ℕ) (span : Span) → x < s → span.past ≤ s → (nat_le (span.row * s + span.first) (y * s + x) && nat_lt (y * s + x) (span.row * s + span.past)) ≡ holds x y span
place_test s x y span p q =
    let r = span.row in
    let f = span.first in
    let e = span.past in
    bool_same _ _
    (λ h. let i = range_true (r * s + f) (r * s + e) (y * s + x) h in
    let same : r ≡ y = same_row s r y x f e p q i.0 i.1 in
    let scaled : r * s ≡ y * s = ap (λ k. k * s) same in
    and_from _ _ (and_from _ _ (eq-eqb r y same) (le-leb f x (omega arith))) (lt-ltb x e (omega arith)))
    (λ h. let i = and_parts _ _ h in
    let j = and_parts (nat_eq r y) (nat_le f x) i.0 in
    let scaled : r * s ≡ y * s = ap (λ k. k * s) (eqb-true r y j.0) in
    let a : f ≤ x = leb-true f x j.1 in
    let b : x < e = ltb-true x e i.1 in
    in_range (r * s + f) (r * s + e) (y * s + x) (omega arith) (omega arith))

out_span : (x y : ℕ) (span : Span) → span.past ≤ x → holds x y span ≡ false
out_span x y span h = and_right _ _ (le-ltb x span.past h)

-- the last row ends in the bytes
pub row_within : (s h y x : ℕ) → y < h → x < 8 * s → y * (8 * s) + x < 8 * (h * s)
row_within s h y x p q = omega (arith, row_fits y (8 * s) h (8 * s) p (omega arith))

pub width_within : (w : ℕ) → w ≤ 8 * stride_of w
width_within w = omega arith

pub filled_rows : (w h s : ℕ) (xs ys : List ℕ) (span : Span) (ink : Bool) → IsRows w h s xs → span.past ≤ w → IsFilled xs ys (span.row * (8 * s) + span.first) (span.row * (8 * s) + span.past) ink → IsRows w h s ys
filled_rows w h s xs ys span ink rows fits fill = record {
  whole = rows.whole;
  small = rows.small;
  size = fill.size ∙ rows.size;
  padding = λ x y p q k.
      let wide : w ≤ 8 * s = rw rows.whole (width_within w) in
      let place : y * (8 * s) + x < 8 * length xs = rw rows.size (row_within s h y x k q) in
      let off : holds x y span ≡ false = out_span x y span (omega arith) in
      fill.bits (y * (8 * s) + x) place
      ∙ ap (λ t. cond t ink (bit xs (y * (8 * s) + x))) (place_test (8 * s) x y span q (omega arith) ∙ off)
      ∙ rows.padding x y p q k;
}

pub filled_view : (w h s : ℕ) (xs ys : List ℕ) (span : Span) (ink : Bool) → IsRows w h s xs → span.past ≤ w → IsFilled xs ys (span.row * (8 * s) + span.first) (span.row * (8 * s) + span.past) ink → drawn w h (dot_of s ys) ≡ repainted (drawn w h (dot_of s xs)) (λ x y. holds x y span) (λ _ _. ink)
filled_view w h s xs ys span ink rows fits fill =
    drawn_same w h _ _ (λ x y p q.
    let wide : w ≤ 8 * s = rw rows.whole (width_within w) in
    let place : y * (8 * s) + x < 8 * length xs = rw rows.size (row_within s h y x q (omega arith)) in
    fill.bits (y * (8 * s) + x) place
    ∙ ap (λ t. cond t ink (bit xs (y * (8 * s) + x))) (place_test (8 * s) x y span (omega arith) (omega arith))
    ∙ ap (cond (holds x y span) ink) (sym (pixel_drawn w h (dot_of s xs) x y p q)))

pub packed : (w h s : ℕ) (xs : List ℕ) → IsRows w h s xs → IsPacked (drawn w h (dot_of s xs)) xs
packed w h s xs rows = record {
  size = rows.size ∙ ap (λ k. h * k) rows.whole;
  dots = λ x y p q. ap (λ k. dot_of k xs x y) (sym rows.whole) ∙ sym (pixel_drawn w h (dot_of s xs) x y p q);
  padding = λ x y p q k. ap (λ j. dot_of j xs x y) (sym rows.whole) ∙ rows.padding x y p (rw rows.whole q) k;
}

pub bit_read : (xs : List ℕ) (n b : ℕ) → b ≡ get_or xs (n / 8) 0 → nat_eq (bit_and (b / 2 ^ (7 - n % 8)) 1) 1 ≡ bit xs n
bit_read xs n b e = ap (λ v. nat_eq v 1) (shr_and_one b (7 - n % 8) ∙ ap (λ v. bit_at v (7 - n % 8)) e)
