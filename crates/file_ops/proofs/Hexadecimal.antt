-- Steps of the reading of hexadecimal digits.
use Rattle.std.proofs.Common.{◌≡◌, ℕ, suc, ◌+◌, ◌<◌, ◌≤◌, Bool, true, false, cond, nat_lt, List, [], ◌∷◌, ◌++◌, drop, length, Option, Some, None, slice_get, refl, sym, ap, ◌∙◌, arith}
use Rattle.ps_operator.proofs.LookSteps.{drop_at_get}
use Rattle.file_ops.specs.Reading.{digit_of, with_digit, with_byte, hex_from}
use Rattle.file_ops.specs.declared.reading.Hex.{Hex}
use Rattle.file_ops.proofs.Rests.{all_dropped}

less : (a b : ℕ) → a < b → nat_lt a b ≡ true
less a b h = grind arith

not_less : (a b : ℕ) → b ≤ a → nat_lt a b ≡ false
not_less a b h = grind arith

-- one more byte
pub hex_step : (len at : ℕ) (text : List ℕ) (h new : Hex) (b : ℕ) → slice_get text at ≡ Some b → length h.bytes < len → new ≡ with_byte h b
    → hex_from len (drop at text) h ≡ hex_from len (drop (at + 1) text) new
hex_step len at text h new b e l g =
    ap (λ xs. hex_from len xs h) (drop_at_get text at b e)
    ∙ ap (λ t. cond t (hex_from len (drop (at + 1) text) (with_byte h b)) h) (less (length h.bytes) len l)
    ∙ ap (hex_from len (drop (at + 1) text)) (sym g)

-- the string is full
pub hex_full : (len : ℕ) (rest : List ℕ) (h : Hex) → len ≤ length h.bytes → hex_from len rest h ≡ h
hex_full len [] h l = refl
hex_full len (b ∷ rest) h l = ap (λ t. cond t (hex_from len rest (with_byte h b)) h) (not_less (length h.bytes) len l)

-- the text has ended
pub hex_end : (len at : ℕ) (text : List ℕ) (h : Hex) → at ≡ length text → hex_from len (drop at text) h ≡ h
hex_end len at text h e = ap (λ xs. hex_from len xs h) (all_dropped text at e)

-- ---- what was read lies within the string and the text

longer : (xs : List ℕ) (x : ℕ) → length (xs ++ x ∷ []) ≡ suc (length xs)
longer [] x = refl
longer (y ∷ ys) x = ap suc (longer ys x)

at_most_one : (h : Hex) (d f : Option ℕ) → length (with_digit h d f).bytes ≤ suc (length h.bytes)
at_most_one h None f = omega arith
at_most_one h (Some d) None = omega arith
at_most_one h (Some d) (Some f) = let e : length (with_digit h (Some d) (Some f)).bytes ≡ suc (length h.bytes) = longer h.bytes _ in omega (arith, e)

on_by_one : (h : Hex) (d f : Option ℕ) → (with_digit h d f).place ≡ h.place + 1
on_by_one h None f = refl
on_by_one h (Some d) None = refl
on_by_one h (Some d) (Some f) = refl

within : (a b : ℕ) → nat_lt a b ≡ true → a < b
within a b h = grind arith

pub hex_short : (len : ℕ) (rest : List ℕ) (h : Hex) → length h.bytes ≤ len → length (hex_from len rest h).bytes ≤ len
hex_short len [] h l = l
hex_short len (b ∷ rest) h l = go (nat_lt (length h.bytes) len) refl (λ m. hex_short len rest (with_byte h b) m)
  where
    go : (t : Bool) → nat_lt (length h.bytes) len ≡ t → (length (with_byte h b).bytes ≤ len → length (hex_from len rest (with_byte h b)).bytes ≤ len)
        → length (Hex.bytes (cond t (hex_from len rest (with_byte h b)) h)) ≤ len
    go true e later = later (let m = at_most_one h (digit_of b) h.first in let n = within (length h.bytes) len e in omega (arith, m, n))
    go false e later = l

pub hex_within : (len : ℕ) (rest : List ℕ) (h : Hex) → (hex_from len rest h).place ≤ h.place + length rest
hex_within len [] h = omega arith
hex_within len (b ∷ rest) h = go (nat_lt (length h.bytes) len) (hex_within len rest (with_byte h b))
  where
    go : (t : Bool) → (hex_from len rest (with_byte h b)).place ≤ (with_byte h b).place + length rest
        → Hex.place (cond t (hex_from len rest (with_byte h b)) h) ≤ h.place + suc (length rest)
    go true m = let e = on_by_one h (digit_of b) h.first in omega (arith, m, e)
    go false m = omega arith
