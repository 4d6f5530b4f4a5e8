-- The bytes of all codes up to the end.
use Rattle.std.proofs.Common.{◌≡◌, ℕ, zero, suc, ◌-◌, List, [], ◌∷◌, length, refl, sym, ap, arith, ⊎_elim}
use Rattle.std.specs.Prelude.{◌==◌, ◌&&◌, not, if◌then◌else◌}
use Rattle.std.proofs.lemmas.Bool.{cases_Bool}
use Rattle.filter_tower.specs.declared.tower.FilterKind.{FilterKind}
use Rattle.filter_tower.specs.declared.tower.FilterKind.TheVariants.{Hex, Base85, RunLength, SubFile}
use Rattle.data_filters.specs.declared.code.Code.{Code}
use Rattle.data_filters.specs.declared.code.Code.TheVariants.{Gives, Ends, EndsWithSource, Wrong}
use Rattle.data_filters.specs.Rests.{Rest, byte, ended, broken, behind, onto}
use Rattle.data_filters.specs.Codes.{passes, part, code}
use Rattle.data_filters.specs.Decoded.{more_given, through, decoded}
use Rattle.data_filters.proofs.CodeLemmas.{IsSound, sound}

-- the rest behind an earlier code is decoded as it stands
pub decoded_left : (kind : FilterKind) (so_far n : ℕ) (r : Rest) → decoded kind so_far n r ≡ decoded kind so_far 0 (behind (passes kind) n r)
unfolding decoded
decoded_left kind so_far zero r = refl
decoded_left kind so_far (suc n) (byte b r) =
    ⊎_elim
    (λ t. rw t (decoded_left kind so_far (suc n) r))
    (λ f. rw f (decoded_left kind so_far n r))
    (cases_Bool (passes kind b))
decoded_left kind so_far (suc n) ended = refl
decoded_left kind so_far (suc n) broken = refl

-- the codes that come behind one
abbrev pub later : FilterKind → ℕ → Rest → ℕ → ℕ → Rest
later kind so_far r n taken = decoded kind (more_given so_far n) 0 (behind (passes kind) taken r)

through_byte : (kind : FilterKind) (so_far b : ℕ) (r : Rest) (c : Code) → IsSound c
    → through c (λ n taken. decoded kind (more_given so_far n) (if passes kind b then taken else taken - 1) r) ≡ through c (later kind so_far (byte b r))
through_byte kind so_far b r (Gives [] taken) h = absurd h
through_byte kind so_far b r (Gives (x ∷ xs) zero) h = absurd (omega (arith, h))
through_byte kind so_far b r (Gives (x ∷ xs) (suc taken)) h =
    let given = more_given so_far (length (x ∷ xs)) in
    let less : suc taken - 1 ≡ taken = omega arith in
    ap (onto (x ∷ xs)) (⊎_elim
    (λ t. rw t (decoded_left kind given (suc taken) r))
    (λ f. rw f (rw less (decoded_left kind given taken r)))
    (cases_Bool (passes kind b)))
through_byte kind so_far b r (Ends taken) h = refl
through_byte kind so_far b r EndsWithSource h = refl
through_byte kind so_far b r Wrong h = refl

-- at its source's end a layer ends
ended_part : (count : ℕ) (mark : List ℕ) (so_far : ℕ) (f : ℕ → ℕ → Rest) → through (part count mark so_far ended) f ≡ ended
ended_part count [] so_far f =
    ⊎_elim (λ t. rw t refl) (λ n. rw n refl) (cases_Bool (not (count == 0) && so_far == count))
ended_part count (m ∷ ms) so_far f = refl

pub ended_through : (kind : FilterKind) (so_far : ℕ) (f : ℕ → ℕ → Rest) → through (code kind so_far ended) f ≡ ended
ended_through Hex so_far f = refl
ended_through Base85 so_far f = refl
ended_through RunLength so_far f = refl
ended_through (SubFile count mark) so_far f = ended_part count mark so_far f

-- where the source can't give a byte, no code gives one
broken_part : (count : ℕ) (mark : List ℕ) (so_far : ℕ) (f g : ℕ → ℕ → Rest) → through (part count mark so_far broken) f ≡ through (part count mark so_far broken) g
broken_part count [] so_far f g =
    ⊎_elim (λ t. rw t refl) (λ n. rw n refl) (cases_Bool (not (count == 0) && so_far == count))
broken_part count (m ∷ ms) so_far f g = refl

broken_through : (kind : FilterKind) (so_far : ℕ) (f g : ℕ → ℕ → Rest) → through (code kind so_far broken) f ≡ through (code kind so_far broken) g
broken_through Hex so_far f g = refl
broken_through Base85 so_far f g = refl
broken_through RunLength so_far f g = refl
broken_through (SubFile count mark) so_far f g = broken_part count mark so_far f g

-- what is decoded is the next code and what comes behind it
pub decoded_through : (kind : FilterKind) (so_far : ℕ) (r : Rest) → decoded kind so_far 0 r ≡ through (code kind so_far r) (later kind so_far r)
unfolding decoded
decoded_through kind so_far (byte b r) = through_byte kind so_far b r (code kind so_far (byte b r)) (sound kind so_far (byte b r))
decoded_through kind so_far ended = sym (ended_through kind so_far (later kind so_far ended))
decoded_through kind so_far broken = broken_through kind so_far (λ n taken. broken) (later kind so_far broken)
