-- What holds of the jobs of every stream.
use Rattle.std.proofs.Common.{◌≡◌, ℕ, zero, suc, true, false, List, [], ◌∷◌, ◌++◌, length, get_or, refl, sym, ap, subst, ◌∙◌, arith, ⊎_elim, append_assoc}
use Rattle.std.specs.Prelude.{not, map, filter, cond, nat_lt, All}
use Rattle.std.specs.List.{list_any, onto_first}
use Rattle.std.proofs.lemmas.List.{map-append, append-nil}
use Rattle.std.proofs.lemmas.Bool.{cases_Bool, cond-true, cond-false}
use Rattle.std.proofs.lemmas.List.Folds.{list_any-append, list_any_at}
use Rattle.std.proofs.lemmas.List.Elements.{filter-append}
use Rattle.std.proofs.lemmas.List.Splits.{join_with_byte-slice_split, slice_split_none, slice_split_at, slice_split-cons_yes, slice_split-cons_no}
use Rattle.job_stream.specs.declared.reader.Fed.{Fed}
use Rattle.job_stream.specs.declared.reader.Fed.TheVariants.{More, Job, Large}
use Rattle.dsc_split.specs.declared.cutter.TheConstants.{JOB_LIMIT}
use Rattle.job_stream.specs.Jobs.{is_control_d, is_blank, pieces_of, jobs_among, jobs_of}
use Rattle.job_stream.specs.Reader.{told}
use Rattle.job_stream.specs.Law.{IsJoined, IsApart, IsFirst, IsLast, IsTold, answers, is_job}

abbrev IsWhole : List ℕ → Type 0
IsWhole piece = list_any is_control_d piece ≡ false

-- no byte of a whole piece is Control-D
none : (piece : List ℕ) → IsWhole piece → All (λ byte. is_control_d byte ≡ false) piece
none piece h k d lt =
    ⊎_elim (λ t. absurd (let some = list_any_at is_control_d piece k d lt t in cc)) (λ f. f) (cases_Bool (is_control_d (get_or piece k d)))

-- a whole piece in front of whole pieces
first_and : (piece : List ℕ) (pieces : List (List ℕ)) → IsWhole piece → All IsWhole pieces → All IsWhole (piece ∷ pieces)
first_and piece pieces here others zero d lt = here
first_and piece pieces here others (suc k) d lt = others k d (omega (arith, lt))

-- a byte in front of the first piece leaves the pieces whole
onto_whole : (byte : ℕ) (pieces : List (List ℕ)) → is_control_d byte ≡ false → All IsWhole pieces → All IsWhole (onto_first byte pieces)
onto_whole byte [] other whole = first_and (byte ∷ []) [] (rw other refl) whole
onto_whole byte (piece ∷ pieces) other whole =
    first_and (byte ∷ piece) pieces (rw other (whole 0 [] (omega arith))) (λ k d lt. whole (suc k) d (omega (arith, lt)))

pub apart : (stream : List ℕ) → IsApart stream
apart [] = first_and [] [] refl (λ k d lt. absurd (omega (arith, lt)))
apart (byte ∷ rest) =
    ⊎_elim
    (λ t. subst (All IsWhole) (sym (slice_split-cons_yes is_control_d byte rest t)) (first_and [] (pieces_of rest) refl (apart rest)))
    (λ f. subst (All IsWhole) (sym (slice_split-cons_no is_control_d byte rest f)) (onto_whole byte (pieces_of rest) f (apart rest)))
    (cases_Bool (is_control_d byte))

pub joined : (stream : List ℕ) → IsJoined stream
joined stream = join_with_byte-slice_split 4 stream

among : (piece : List ℕ) (pieces : List (List ℕ)) → jobs_among (piece ∷ pieces) ≡ jobs_among (piece ∷ []) ++ jobs_among pieces
among piece pieces = filter-append (λ p. not (is_blank p)) (piece ∷ []) pieces

pub first : (piece rest : List ℕ) → IsFirst piece rest
first piece rest whole = ap jobs_among (slice_split_at is_control_d piece 4 rest (none piece whole) refl) ∙ among piece (pieces_of rest)

pub last : (piece : List ℕ) → IsLast piece
last piece whole = ap jobs_among (slice_split_none is_control_d piece (none piece whole))

-- a piece that isn't white space alone is told as a job
is_told : (piece : List ℕ) → is_blank piece ≡ false → is_job (told piece) ≡ true
is_told piece f =
    ap is_job (cond-false (is_blank piece) More (cond (nat_lt JOB_LIMIT (length piece)) Large (Job piece)) f)
    ∙ elim (nat_lt JOB_LIMIT (length piece)) as (λ b. is_job (cond b Large (Job piece)) ≡ true) [ true ↦ refl | false ↦ refl ]

-- what is told of a piece counts exactly where it's a job
counted : (piece : List ℕ) (fed : List Fed) → filter is_job (told piece ∷ fed) ≡ map told (jobs_among (piece ∷ [])) ++ filter is_job fed
counted piece fed =
    ⊎_elim
    (λ t. rw t refl)
    (λ f. cond-true (is_job (told piece)) (told piece ∷ filter is_job fed) (filter is_job fed) (is_told piece f)
    ∙ ap (λ jobs. map told jobs ++ filter is_job fed) (sym (cond-true (not (is_blank piece)) (piece ∷ []) [] (ap not f))))
    (cases_Bool (is_blank piece))

-- where a piece is cut, what is told of it comes first
told_first : (piece : List ℕ) (others : List (List ℕ)) (fed : List Fed) → filter is_job fed ≡ map told (jobs_among others)
    → filter is_job (told piece ∷ fed) ≡ map told (jobs_among (piece ∷ others))
told_first piece others fed h =
    counted piece fed ∙ ap (λ x. map told (jobs_among (piece ∷ [])) ++ x) h
    ∙ sym (map-append told (jobs_among (piece ∷ [])) (jobs_among others)) ∙ ap (map told) (sym (among piece others))

whole_longer : (piece : List ℕ) (byte : ℕ) → IsWhole piece → is_control_d byte ≡ false → IsWhole (piece ++ byte ∷ [])
whole_longer piece byte whole other = list_any-append is_control_d piece (byte ∷ []) ∙ rw (whole, other) refl

pub along : (piece rest : List ℕ) → IsWhole piece → filter is_job (answers piece rest) ≡ map told (jobs_of (piece ++ rest))
along piece [] whole =
    told_first piece [] [] refl ∙ ap (map told) (sym (ap jobs_of (append-nil piece) ∙ last piece whole))
along piece (byte ∷ rest) whole =
    ⊎_elim
    (λ t.
    ap (filter is_job) (cond-true _ (told piece ∷ answers [] rest) (More ∷ answers (piece ++ byte ∷ []) rest) t)
    ∙ told_first piece (pieces_of rest) (answers [] rest) (along [] rest refl)
    ∙ ap (map told) (sym (ap jobs_among (slice_split_at is_control_d piece byte rest (none piece whole) t))))
    (λ f.
    ap (filter is_job) (cond-false _ (told piece ∷ answers [] rest) (More ∷ answers (piece ++ byte ∷ []) rest) f)
    ∙ along (piece ++ byte ∷ []) rest (whole_longer piece byte whole f)
    ∙ ap (λ stream. map told (jobs_of stream)) (append_assoc piece (byte ∷ []) rest))
    (cases_Bool (is_control_d byte))

pub told_along : (stream : List ℕ) → IsTold stream
told_along stream = along [] stream refl
