-- The bytes of a sheet are fixed by its pixels.
use Rattle.std.proofs.Common.{◌≡◌, ℕ, ◌+◌, ◌-◌, ◌*◌, ◌/◌, ◌%◌, ◌<◌, ◌≤◌, inl, inr, Bool, true, false, cond, zero, suc, List, [], length, map, get_or, nat_eq, All, refl, ap, sym, ◌∙◌, arith}
use Rattle.std.specs.Int.{bit_at}
use Rattle.std.specs.List.{range_with_len}
use Rattle.std.proofs.Math.ListN.{get_or-eq_default}
use Rattle.std.proofs.Math.Nat.{div-lt_iff_lt-mul, div-add-mod, mod-lt}
use Rattle.std.proofs.lemmas.Bool.{cases_lt}
use Rattle.std.proofs.lemmas.Grind.{same_number_lists}
use Rattle.std.proofs.lemmas.List.{length-map}
use Rattle.std.proofs.lemmas.List.Elements.{All-get_or, All-from_get_or}
use Rattle.std.proofs.lemmas.List.FromFn.{get_or-map-range_with_len, length-range_with_len, length-map-range_with_len}
use Rattle.std.proofs.lemmas.Nat.Bits.{same_from_bits_below, bit_at-lt, bit_at-zero}
use Rattle.ps_shapes.specs.Bits.{bit, dot_of, stride_of, IsRows, IsBytes}
use Rattle.ps_shapes.specs.Picture.{packed_byte, picture_bytes, pixel_bit}
use Rattle.ps_shapes.specs.Sheet.{Sheet, drawn, rows_of, pixel}
use Rattle.ps_shapes.proofs.Drawn.{pixel_drawn, drawn_same}
use Rattle.ps_shapes.proofs.Places.{row_within, width_within}

bit_same : (a b : ℕ) → a < 2 → b < 2 → nat_eq a 1 ≡ nat_eq b 1 → a ≡ b
bit_same zero zero p q e = refl
bit_same zero (suc zero) p q e = cc
bit_same (suc zero) zero p q e = cc
bit_same (suc zero) (suc zero) p q e = refl
bit_same a (suc (suc b)) p q e = absurd (omega arith)
bit_same (suc (suc a)) b p q e = absurd (omega arith)

bit_in_byte : (xs : List ℕ) (k i n : ℕ) → i < 8 → n ≡ 8 * k + (7 - i) → bit xs n ≡ nat_eq (bit_at (get_or xs k 0) i) 1
bit_in_byte xs k i n h e =
    let byte : n / 8 ≡ k = omega arith in
    let place : 7 - n % 8 ≡ i = omega arith in
    ap (λ a. nat_eq (bit_at (get_or xs a 0) (7 - n % 8)) 1) byte ∙ ap (λ b. nat_eq (bit_at (get_or xs k 0) b) 1) place

same_bits : (xs ys : List ℕ) → length xs ≡ length ys → IsBytes xs → IsBytes ys → ((n : ℕ) → n < 8 * length xs → bit xs n ≡ bit ys n) → xs ≡ ys
same_bits xs ys len small_xs small_ys same =
    same_number_lists xs ys len (λ k h.
    same_from_bits_below 8 (get_or xs k 0) (get_or ys k 0) (small_xs.small k) (small_ys.small k) (λ i j.
    let n = 8 * k + (7 - i) in
    bit_same (bit_at (get_or xs k 0) i) (bit_at (get_or ys k 0) i) (bit_at-lt (get_or xs k 0) i) (bit_at-lt (get_or ys k 0) i)
    (sym (bit_in_byte xs k i n j refl) ∙ same n (omega arith) ∙ bit_in_byte ys k i n j refl)))

-- a place among rows of s bits
row_of : (h s n : ℕ) → n < 8 * (h * s) → (0 < s) × (n / (8 * s) < h) × (n % (8 * s) < 8 * s) × (n / (8 * s) * (8 * s) + n % (8 * s) ≡ n)
row_of h zero n p = absurd (omega arith)
row_of h (suc t) n p =
    let s = suc t in
    let some : 0 < 8 * s = omega arith in
    let below : n < h * (8 * s) = omega arith in
    let split : 8 * s * (n / (8 * s)) + n % (8 * s) ≡ n = div-add-mod n (8 * s) in
    (omega arith, (div-lt_iff_lt-mul some).1 below, mod-lt n some, omega arith)

same_dots : (w h s : ℕ) (xs ys : List ℕ) → IsRows w h s xs → IsRows w h s ys → IsBytes xs → IsBytes ys → ((x y : ℕ) → x < w → y < h → dot_of s xs x y ≡ dot_of s ys x y) → xs ≡ ys
same_dots w h s xs ys p q small_xs small_ys same =
    same_bits xs ys (p.size ∙ sym q.size) small_xs small_ys (λ n k.
    let at = row_of h s n (rw (sym p.size) k) in
    let x = n % (8 * s) in
    let y = n / (8 * s) in
    let here : dot_of s xs x y ≡ dot_of s ys x y =
    elim (cases_lt x w) [
      | inl in_row ↦ same x y in_row at.1
      | inr past ↦ p.padding x y past at.2 at.1 ∙ sym (q.padding x y past at.2 at.1)
    ] in
    ap (bit xs) (sym at.3) ∙ here ∙ ap (bit ys) at.3)

-- sheets that are equal have the same bytes
pub same_sheet_bytes : (w h s : ℕ) (xs ys : List ℕ) → IsRows w h s xs → IsRows w h s ys → IsBytes xs → IsBytes ys → drawn w h (dot_of s xs) ≡ drawn w h (dot_of s ys) → xs ≡ ys
same_sheet_bytes w h s xs ys p q small_xs small_ys e =
    same_dots w h s xs ys p q small_xs small_ys (λ x y i j.
    sym (pixel_drawn w h (dot_of s xs) x y i j) ∙ ap (λ (sheet : Sheet). pixel sheet x y) e ∙ pixel_drawn w h (dot_of s ys) x y i j)

bit_none : (xs : List ℕ) (n : ℕ) → get_or xs (n / 8) 0 ≡ 0 → bit xs n ≡ false
bit_none xs n e = ap (λ v. nat_eq (bit_at v (7 - n % 8)) 1) e ∙ ap (λ v. nat_eq v 1) (bit_at-zero (7 - n % 8))

-- a sheet is white where its bytes are 0
pub white_bytes : (w h s : ℕ) (xs : List ℕ) → IsRows w h s xs → All (λ b. b ≡ 0) xs → drawn w h (dot_of s xs) ≡ drawn w h (λ _ _. false)
white_bytes w h s xs p none =
    drawn_same w h (dot_of s xs) (λ _ _. false) (λ x y i j.
    let wide : w ≤ 8 * s = rw p.whole (width_within w) in
    let row : y * (8 * s) + x < 8 * (h * s) = row_within s h y x j (omega arith) in
    bit_none xs (y * (8 * s) + x) (All-get_or (λ b. b ≡ 0) xs ((y * (8 * s) + x) / 8) 0 (omega (arith, p.size, row)) none))

pub white_sheet : (w h s : ℕ) (xs : List ℕ) → IsRows w h s xs → IsBytes xs → drawn w h (dot_of s xs) ≡ drawn w h (λ _ _. false) → All (λ b. b ≡ 0) xs
white_sheet w h s xs p small e =
    let none : (x y : ℕ) → x < 8 * s → y < h → dot_of s xs x y ≡ false =
    λ x y i j. elim (cases_lt x w) [
      | inl in_row ↦ sym (pixel_drawn w h (dot_of s xs) x y in_row j) ∙ ap (λ (sheet : Sheet). pixel sheet x y) e ∙ pixel_drawn w h (λ _ _. false) x y in_row j
      | inr past ↦ p.padding x y past i j
    ] in
    All-from_get_or (λ b. b ≡ 0) xs 0 (λ k h'.
    same_from_bits_below 8 (get_or xs k 0) 0 (small.small k) (omega arith) (λ i j.
    let n = 8 * k + (7 - i) in
    let at = row_of h s n (rw (sym p.size) (omega arith)) in
    bit_same (bit_at (get_or xs k 0) i) (bit_at 0 i) (bit_at-lt (get_or xs k 0) i) (bit_at-lt 0 i)
    (sym (bit_in_byte xs k i n j refl) ∙ ap (bit xs) (sym at.3) ∙ none (n % (8 * s)) (n / (8 * s)) at.2 at.1 ∙ sym (ap (λ v. nat_eq v 1) (bit_at-zero i)))))

pixel_bit_is : (xs : List ℕ) (n : ℕ) → cond (bit xs n) 1 0 ≡ bit_at (get_or xs (n / 8) 0) (7 - n % 8)
pixel_bit_is xs n = one_or_none (bit_at (get_or xs (n / 8) 0) (7 - n % 8)) (bit_at-lt (get_or xs (n / 8) 0) (7 - n % 8))
  where
    one_or_none : (b : ℕ) → b < 2 → cond (nat_eq b 1) 1 0 ≡ b
    one_or_none zero h = refl
    one_or_none (suc zero) h = refl
    one_or_none (suc (suc b)) h = absurd (omega arith)

-- a row's pixel, or white past its end
row_dot : (w h s : ℕ) (xs : List ℕ) (x y : ℕ) → IsRows w h s xs → x < 8 * s → y < h → get_or (get_or (drawn w h (dot_of s xs)).rows y []) x false ≡ dot_of s xs x y
unfolding rows_of
row_dot w h s xs x y p i j =
    let f = dot_of s xs in
    ap (λ row. get_or row x false) (get_or-map-range_with_len (λ v. map (λ u. f u v) (range_with_len 0 w)) 0 h y y [] j (omega arith))
    ∙ elim (cases_lt x w) [
      | inl in_row ↦ get_or-map-range_with_len (λ u. f u y) 0 w x x false in_row (omega arith)
      | inr past ↦ get_or-eq_default (map (λ u. f u y) (range_with_len 0 w)) false (omega (arith, length-map (range_with_len 0 w) (λ u. f u y), length-range_with_len 0 w)) ∙ sym (p.padding x y past i j)
    ]

byte_split : (v : ℕ) → v < 256 → v ≡ 128 * bit_at v 7 + 64 * bit_at v 6 + 32 * bit_at v 5 + 16 * bit_at v 4 + 8 * bit_at v 3 + 4 * bit_at v 2 + 2 * bit_at v 1 + bit_at v 0
byte_split v h = omega arith

-- a byte among rows of s bytes
byte_place : (h s k : ℕ) → k < h * s → (k / s < h) × (k % s < s) × (k / s * s + k % s ≡ k)
byte_place h zero k p = absurd (omega arith)
byte_place h (suc t) k p =
    let s = suc t in
    let some : 0 < s = omega arith in
    let split : s * (k / s) + k % s ≡ k = div-add-mod k s in
    ((div-lt_iff_lt-mul some).1 p, mod-lt k some, omega arith)

row_bit : (w h s : ℕ) (xs : List ℕ) (k i x : ℕ) → IsRows w h s xs → k < h * s → i < 8 → x ≡ 8 * (k % s) + i → pixel_bit (get_or (drawn w h (dot_of s xs)).rows (k / s) []) x ≡ bit_at (get_or xs k 0) (7 - i)
row_bit w h s xs k i x p q j e =
    let at = byte_place h s k q in
    let y = k / s in
    let c = k % s in
    let wide : x < 8 * s = omega (arith, at.1) in
    let place : y * (8 * s) + x ≡ 8 * k + i = omega (arith, at.2) in
    let byte : (8 * k + i) / 8 ≡ k = omega arith in
    let bit_place : 7 - (8 * k + i) % 8 ≡ 7 - i = omega arith in
    let row : get_or (get_or (drawn w h (dot_of s xs)).rows y []) x false ≡ bit xs (8 * k + i) = row_dot w h s xs x y p wide at.0 ∙ ap (bit xs) place in
    ap (λ b. cond b 1 0) row
    ∙ pixel_bit_is xs (8 * k + i)
    ∙ ap (λ a. bit_at (get_or xs a 0) (7 - (8 * k + i) % 8)) byte
    ∙ ap (bit_at (get_or xs k 0)) bit_place

byte_of : (w h s : ℕ) (xs : List ℕ) (k : ℕ) → IsRows w h s xs → IsBytes xs → k < h * s → get_or xs k 0 ≡ packed_byte (get_or (drawn w h (dot_of s xs)).rows (k / s) []) (8 * (k % s))
byte_of w h s xs k p small q =
    let v = get_or xs k 0 in
    let row = get_or (drawn w h (dot_of s xs)).rows (k / s) [] in
    let x = 8 * (k % s) in
    let a0 : pixel_bit row x ≡ bit_at v 7 = row_bit w h s xs k 0 x p q (omega arith) (omega arith) in
    let a1 : pixel_bit row (x + 1) ≡ bit_at v 6 = row_bit w h s xs k 1 (x + 1) p q (omega arith) refl in
    let a2 : pixel_bit row (x + 2) ≡ bit_at v 5 = row_bit w h s xs k 2 (x + 2) p q (omega arith) refl in
    let a3 : pixel_bit row (x + 3) ≡ bit_at v 4 = row_bit w h s xs k 3 (x + 3) p q (omega arith) refl in
    let a4 : pixel_bit row (x + 4) ≡ bit_at v 3 = row_bit w h s xs k 4 (x + 4) p q (omega arith) refl in
    let a5 : pixel_bit row (x + 5) ≡ bit_at v 2 = row_bit w h s xs k 5 (x + 5) p q (omega arith) refl in
    let a6 : pixel_bit row (x + 6) ≡ bit_at v 1 = row_bit w h s xs k 6 (x + 6) p q (omega arith) refl in
    let a7 : pixel_bit row (x + 7) ≡ bit_at v 0 = row_bit w h s xs k 7 (x + 7) p q (omega arith) refl in
    let split = byte_split v (small.small k) in
    cc

pub picture_packed : (w h s : ℕ) (xs : List ℕ) → IsRows w h s xs → IsBytes xs → xs ≡ picture_bytes (drawn w h (dot_of s xs))
unfolding picture_bytes
picture_packed w h s xs p small =
    let rows = (drawn w h (dot_of s xs)).rows in
    let byte = λ (t k : ℕ). packed_byte (get_or rows (k / t) []) (8 * (k % t)) in
    same_number_lists xs (map (byte (stride_of w)) (range_with_len 0 (h * stride_of w))) (p.size ∙ ap (λ t. h * t) p.whole ∙ sym (length-map-range_with_len (byte (stride_of w)) 0 (h * stride_of w)))
    (λ k i.
    let within : k < h * s = rw (sym p.size) i in
    byte_of w h s xs k p small within ∙ ap (λ t. byte t k) p.whole
    ∙ sym (get_or-map-range_with_len (byte (stride_of w)) 0 (h * stride_of w) k k 0 (rw (sym p.whole) within) (omega arith)))
