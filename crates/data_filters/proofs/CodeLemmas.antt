-- Codes.
use Rattle.std.proofs.Common.{◌≡◌, ℕ, zero, suc, ◌+◌, ◌-◌, ◌*◌, ◌^◌, ◌≤◌, Bool, true, false, List, [], ◌∷◌, refl, sym, ap, ◌∙◌, arith, lit≤, ⊎_elim, Option, Some, None}
use Rattle.std.specs.Prelude.{◌==◌, ◌&&◌, not, nat_lt, cond}
use Rattle.std.specs.Char.{digit_value}
use Rattle.std.proofs.lemmas.Bool.{cases_Bool, cond-false, eqb-true}
use Rattle.filter_tower.specs.declared.tower.FilterKind.{FilterKind}
use Rattle.filter_tower.specs.declared.tower.FilterKind.TheVariants.{Hex, Base85, RunLength, SubFile}
use Rattle.data_filters.specs.declared.code.Code.{Code}
use Rattle.data_filters.specs.declared.code.Code.TheVariants.{Gives, Ends, EndsWithSource, Wrong}
use Rattle.data_filters.specs.Rests.{Rest, byte, ended, broken, behind}
use Rattle.data_filters.specs.Codes.{is_white, past_white, second_digit, first_digit, is_character, padded, cut_group, tilde, character, group, front, literal_of, repeated, run, one, begins_with, part, code}

pub differs : (n m : ℕ) → (n ≡ m → ⊥) → (n == m) ≡ false
differs n m h = ⊎_elim (λ t. absurd (h (eqb-true n m t))) (λ f. f) (cases_Bool (n == m))

-- white space in front is passed over
pub past_behind : (n : ℕ) (r : Rest) → behind is_white (suc n) r ≡ behind is_white (suc n) (past_white r)
past_behind n (byte b r) = ⊎_elim (λ t. rw t (past_behind n r)) (λ f. rw f (rw f refl)) (cases_Bool (is_white b))
past_behind n ended = refl
past_behind n broken = refl

-- what comes behind white space is none
pub past_head : (r more : Rest) (b : ℕ) → past_white r ≡ byte b more → is_white b ≡ false
past_head (byte c r) more b h =
    ⊎_elim
    (λ t. past_head r more b (rw t at h))
    (λ f. let same : byte c r ≡ byte b more = rw f at h in let e : c ≡ b = cc in ap is_white (sym e) ∙ f)
    (cases_Bool (is_white c))
past_head ended more b h = absurd (cc)
past_head broken more b h = absurd (cc)

-- one byte behind white space
pub behind_one : (n : ℕ) (r more : Rest) (b : ℕ) → past_white r ≡ byte b more → behind is_white (suc n) r ≡ behind is_white n more
behind_one n r more b h =
    let f = past_head r more b h in
    past_behind n r ∙ ap (behind is_white (suc n)) h ∙ cond-false (is_white b) (behind is_white (suc n) more) (behind is_white n more) f

-- A code that gives bytes gives one at least, and takes one at least.
abbrev pub IsSound : Code → Type 0
IsSound (Gives [] taken) = ⊥
IsSound (Gives (b ∷ bs) taken) = 1 ≤ taken
IsSound (Ends taken) = Unit {0}
IsSound EndsWithSource = Unit {0}
IsSound Wrong = Unit {0}

chosen : (t : Bool) (x y : Code) → IsSound x → IsSound y → IsSound (cond t x y)
chosen true x y h k = h
chosen false x y h k = k

sound_second : (high : ℕ) (r : Rest) → IsSound (second_digit high r)
sound_second high (byte b r) = chosen (b == 62) _ _ (omega arith) (chosen (nat_lt (digit_value b) 16) _ _ (omega arith) tt)
sound_second high ended = omega arith
sound_second high broken = tt

sound_first : (r : Rest) → IsSound (first_digit r)
sound_first (byte b r) = chosen (b == 62) _ _ tt (chosen (nat_lt (digit_value b) 16) _ _ (sound_second (digit_value b) (past_white r)) tt)
sound_first ended = tt
sound_first broken = tt

sound_cut : (missing value : ℕ) (end : Code) → missing ≤ 5 → IsSound end → IsSound (cut_group missing value end)
sound_cut zero value end h k = chosen (nat_lt (padded 0 value) (2 ^ 32)) _ _ (omega arith) tt
sound_cut (suc zero) value end h k = chosen (nat_lt (padded 1 value) (2 ^ 32)) _ _ (omega arith) tt
sound_cut (suc (suc zero)) value end h k = chosen (nat_lt (padded 2 value) (2 ^ 32)) _ _ (omega arith) tt
sound_cut (suc (suc (suc zero))) value end h k = chosen (nat_lt (padded 3 value) (2 ^ 32)) _ _ (omega arith) tt
sound_cut (suc (suc (suc (suc zero)))) value end h k = tt
sound_cut (suc (suc (suc (suc (suc zero))))) value end h k = k
sound_cut (suc (suc (suc (suc (suc (suc n)))))) value end h k = absurd (omega (arith, h))

sound_tilde : (missing value : ℕ) (r : Rest) → missing ≤ 5 → IsSound (tilde missing value r)
sound_tilde missing value (byte b r) h = chosen (b == 62) _ _ (sound_cut missing value (Ends 2) h tt) tt
sound_tilde missing value ended h = tt
sound_tilde missing value broken h = tt

sound_character : (missing value : ℕ) (later : ℕ → Rest → Code) (r : Rest) → missing ≤ 5 → ((v : ℕ) (x : Rest) → IsSound (later v x)) → IsSound (character missing value later r)
sound_character missing value later (byte b r) h k =
    chosen (is_character b) _ _ (k (value * 85 + (b - 33)) r)
    (chosen (b == 122 && missing == 5) _ _ (omega arith) (chosen (b == 126) _ _ (sound_tilde missing value r h) tt))
sound_character missing value later ended h k = sound_cut missing value EndsWithSource h tt
sound_character missing value later broken h k = tt

sound_group : (missing value : ℕ) (r : Rest) → missing ≤ 5 → IsSound (group missing value r)
sound_group zero value r h = chosen (nat_lt value (2 ^ 32)) _ _ (omega arith) tt
sound_group (suc missing) value r h =
    sound_character (suc missing) value (group missing) (past_white r) h (λ v x. sound_group missing v x (omega (arith, h)))

sound_literal : (found : Option (List ℕ)) → IsSound (literal_of found)
sound_literal None = tt
sound_literal (Some []) = tt
sound_literal (Some (b ∷ bs)) = omega arith

sound_repeated : (n : ℕ) (r : Rest) → IsSound (repeated n r)
sound_repeated n (byte b r) = omega arith
sound_repeated n ended = tt
sound_repeated n broken = tt

sound_run : (r : Rest) → IsSound (run r)
sound_run (byte n r) = chosen (n == 128) _ _ tt (chosen (nat_lt n 128) _ _ (sound_literal (front (n + 1) r)) (sound_repeated (256 - n) r))
sound_run ended = tt
sound_run broken = tt

sound_one : (r : Rest) → IsSound (one r)
sound_one (byte b r) = omega arith
sound_one ended = tt
sound_one broken = tt

sound_part : (count : ℕ) (mark : List ℕ) (so_far : ℕ) (r : Rest) → IsSound (part count mark so_far r)
sound_part count [] so_far r = chosen (not (count == 0) && so_far == count) _ _ tt (sound_one r)
sound_part count (m ∷ ms) so_far r = chosen (begins_with (m ∷ ms) r) _ _ tt (sound_one r)

pub sound : (kind : FilterKind) (so_far : ℕ) (r : Rest) → IsSound (code kind so_far r)
sound Hex so_far r = sound_first (past_white r)
sound Base85 so_far r = sound_group 5 0 r (lit≤ tt)
sound RunLength so_far r = sound_run r
sound (SubFile count mark) so_far r = sound_part count mark so_far r
