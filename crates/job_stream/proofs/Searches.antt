-- What a search for Control-D answers.
use Rattle.std.proofs.Common.{◌≡◌, ◌+◌, ◌<◌, ◌≤◌, ℕ, suc, List, [], ◌∷◌, Bool, true, false, Option, Some, None, ◌++◌, length, take, refl, sym, subst, arith, ⊎_elim}
use Rattle.std.specs.Prelude.{unwrap_or}
use Rattle.std.specs.List.{position_or_len, before_first, list_any}
use Rattle.std.proofs.lemmas.Bool.{cases_Bool}
use Rattle.std.proofs.lemmas.List.Sums.{position_or_len_is}
use Rattle.memchr.specs.Find.{IsFirstByte, is_byte}
use Rattle.job_stream.specs.declared.reader.Fed.{Fed}
use Rattle.job_stream.specs.declared.reader.JobReader.{JobReader}
use Rattle.job_stream.specs.Jobs.{is_control_d}
use Rattle.job_stream.specs.Reader.{Grows, Ends, EndsBehind}

-- a test that doesn't pass fails
fails : (b : Bool) → ¬ (b ≡ true) → b ≡ false
fails true h = absurd (h refl)
fails false h = refl

pub first_place : (text : List ℕ) (r : Option ℕ) → IsFirstByte (is_byte 4) text r → unwrap_or r (length text) ≡ position_or_len is_control_d text
first_place text None h =
    sym (position_or_len_is is_control_d text (length text) 0 (omega arith) (λ k lt. fails _ (h k (omega arith) lt)) (λ lt. absurd (omega arith)))
first_place text (Some k) h =
    let within : k ≤ length text = omega (arith, h.0.high) in
    sym (position_or_len_is is_control_d text k 0 within (λ j lt. fails _ (h.0.before j (omega arith) lt)) (λ _. h.1))

pub unparted : (text : List ℕ) → position_or_len is_control_d text ≡ length text → list_any is_control_d text ≡ false
unparted [] h = refl
unparted (byte ∷ rest) h =
    ⊎_elim
    (λ t. absurd (let none : position_or_len is_control_d (byte ∷ rest) ≡ 0 = rw t refl in omega (arith, h, none)))
    (λ f. rw f (unparted rest (let more : position_or_len is_control_d (byte ∷ rest) ≡ 1 + position_or_len is_control_d rest = rw f refl in omega (arith, h, more))))
    (cases_Bool (is_control_d byte))

pub parted : (text : List ℕ) → position_or_len is_control_d text < length text → list_any is_control_d text ≡ true
parted [] h = absurd (omega (arith, h))
parted (byte ∷ rest) h =
    ⊎_elim
    (λ t. rw t refl)
    (λ f. rw f (parted rest (let more : position_or_len is_control_d (byte ∷ rest) ≡ 1 + position_or_len is_control_d rest = rw f refl in omega (arith, h, more))))
    (cases_Bool (is_control_d byte))

pub whole_before : (text : List ℕ) → list_any is_control_d (before_first is_control_d text) ≡ false
whole_before [] = refl
whole_before (byte ∷ rest) =
    let more : 1 + position_or_len is_control_d rest ≡ suc (position_or_len is_control_d rest) = omega arith in
    ⊎_elim
    (λ t. rw t refl)
    (λ f. rw f (rw more (rw f (whole_before rest))))
    (cases_Bool (is_control_d byte))

-- the bytes before the first Control-D stand behind the piece, and then it ends
pub ends_behind : (old middle new : JobReader) (place : ℕ) (bytes : List ℕ) (fed : Fed) → place ≡ position_or_len is_control_d bytes
    → (list_any is_control_d (take place bytes) ≡ false → Grows old middle (take place bytes)) → Ends middle new fed
    → EndsBehind old new (before_first is_control_d bytes) fed
ends_behind old middle new place bytes fed e grows ends =
    let grown : Grows old middle (before_first is_control_d bytes) =
    subst (λ n. (list_any is_control_d (take n bytes) ≡ false → Grows old middle (take n bytes))) e grows (whole_before bytes)
    in
    record {
      piece_told = λ piece held. ends.piece_told (piece ++ before_first is_control_d bytes) (grown piece held);
      begun = ends.begun;
    }
