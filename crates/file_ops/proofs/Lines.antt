-- Steps of the search for a line end.
use Rattle.std.proofs.Common.{◌≡◌, ℕ, suc, ◌+◌, ◌<◌, ◌≤◌, Bool, true, false, cond, ◌&&◌, nat_eq, nat_lt, List, [], ◌∷◌, drop, length, Some, slice_get, Result, Ok, Err, refl, ap, ◌∙◌, arith}
use Rattle.ps_names.specs.declared.error_name.ErrorName.{ErrorName}
use Rattle.ps_names.specs.declared.error_name.ErrorName.TheVariants.{RangeCheck}
use Rattle.ps_operator.proofs.LookSteps.{drop_at_get}
use Rattle.file_ops.specs.Reading.{ends_line, line_length, begins_with_feed, end_length, line_room}
use Rattle.file_ops.proofs.Rests.{all_dropped}

has_room : (len n m : ℕ) → n ≡ m → m ≤ len → line_room len n ≡ Ok m
has_room len n m e l = go (nat_lt len n) refl
  where
    go : (t : Bool) → nat_lt len n ≡ t → cond {A = Result ℕ ErrorName} t (Err RangeCheck) (Ok n) ≡ Ok m
    go true h = absurd (grind (arith, h, e, l))
    go false h = ap (λ n. Ok n) e

is_long : (len n : ℕ) → len < n → line_room len n ≡ Err RangeCheck
is_long len n l = ap (λ t. cond {A = Result ℕ ErrorName} t (Err RangeCheck) (Ok n)) (more len n l)
  where
    more : (len n : ℕ) → len < n → nat_lt len n ≡ true
    more len n l = grind arith

module _ (text : List ℕ) (len at : ℕ) (here : line_length text ≡ at + line_length (drop at text)) where
  opened : (b : ℕ) → slice_get text at ≡ Some b → line_length (drop at text) ≡ cond (ends_line b) 0 (suc (line_length (drop (at + 1) text)))
  opened b e = ap line_length (drop_at_get text at b e)

  none_left : (n : ℕ) → n ≡ 0 → at + n ≡ at
  none_left n e = omega (arith, e)

  -- a line end stands here
  pub line_stops : (b : ℕ) → slice_get text at ≡ Some b → ends_line b ≡ true → at ≤ len → line_room len (line_length text) ≡ Ok at
  line_stops b e t l = has_room len (line_length text) at (here ∙ none_left (line_length (drop at text)) (opened b e ∙ ap (λ t. cond t 0 (suc (line_length (drop (at + 1) text)))) t)) l

  -- none stands here
  pub line_goes_on : (b : ℕ) → slice_get text at ≡ Some b → ends_line b ≡ false → line_length text ≡ at + 1 + line_length (drop (at + 1) text)
  line_goes_on b e t = here ∙ ap (λ n. at + n) (opened b e ∙ ap (λ t. cond t 0 (suc (line_length (drop (at + 1) text)))) t) ∙ again (line_length (drop (at + 1) text))
    where
      again : (n : ℕ) → at + suc n ≡ at + 1 + n
      again n = omega arith

  -- and the string is full
  pub line_is_long : (b : ℕ) → slice_get text at ≡ Some b → ends_line b ≡ false → len ≤ at → line_room len (line_length text) ≡ Err RangeCheck
  line_is_long b e t l = is_long len (line_length text) (let h : line_length text ≡ at + 1 + line_length (drop (at + 1) text) = line_goes_on b e t in omega (arith, h, l))

  -- the text has ended
  pub line_is_all : at ≡ length text → length text ≤ len → line_room len (line_length text) ≡ Ok (length text)
  line_is_all e l = has_room len (line_length text) (length text) (here ∙ none_left (line_length (drop at text)) (ap line_length (all_dropped text at e)) ∙ e) l

-- ---- a line lies within the text

pub line_within : (xs : List ℕ) → line_length xs ≤ length xs
line_within [] = omega arith
line_within (b ∷ xs) = go (ends_line b) (line_within xs)
  where
    go : (t : Bool) → line_length xs ≤ length xs → cond t 0 (suc (line_length xs)) ≤ suc (length xs)
    go true h = omega arith
    go false h = omega (arith, h)

pub end_within : (xs : List ℕ) → end_length xs ≤ length xs
end_within [] = omega arith
end_within (b ∷ xs) = go (nat_eq b 13) xs
  where
    go : (t : Bool) (xs : List ℕ) → cond (t && begins_with_feed xs) 2 1 ≤ suc (length xs)
    go true [] = omega arith
    go true (c ∷ cs) = both (nat_eq c 10) (length cs)
      where
        both : (t : Bool) (n : ℕ) → cond t 2 1 ≤ suc (suc n)
        both true n = omega arith
        both false n = omega arith
    go false xs = omega arith

room_by : (len n m : ℕ) (t : Bool) → nat_lt len n ≡ t → cond {A = Result ℕ ErrorName} t (Err RangeCheck) (Ok n) ≡ Ok m → (n ≡ m) × (m ≤ len)
room_by len n m true p q = cc
room_by len n m false p q = let e : n ≡ m = cc in (e, grind (arith, p, e))

-- a line that has room
pub roomy : (len n m : ℕ) → line_room len n ≡ Ok m → (n ≡ m) × (m ≤ len)
roomy len n m e = room_by len n m (nat_lt len n) refl e
