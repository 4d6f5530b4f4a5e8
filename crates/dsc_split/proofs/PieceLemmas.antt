-- The pieces of a job, joined, and the Control-D bytes at its ends.
use Rattle.std.proofs.Common.{◌≡◌, ℕ, zero, suc, ◌+◌, ◌-◌, ◌≤◌, List, [], ◌∷◌, ◌++◌, length, take, drop, refl, sym, ap, ◌∙◌, arith, ⊎_elim, length-drop, append_assoc}
use Rattle.std.specs.Prelude.{reverse, replicate}
use Rattle.std.specs.List.{prefix_len, suffix_len}
use Rattle.std.proofs.Math.Seq.{take-add}
use Rattle.std.proofs.lemmas.Bool.{cases_Bool, eqb-true}
use Rattle.std.proofs.lemmas.List.{drop-drop, reverse-append, reverse-reverse, length-reverse, take-append-drop, take_at, replicate_more}
use Rattle.std.proofs.lemmas.List.Sums.{prefix_len-le-length, suffix_len-le-length}
use Rattle.dsc_split.specs.Sections.{is_control_d, start_of, end_of}

-- the bytes from one place to another
abbrev pub piece : List ℕ → ℕ → ℕ → List ℕ
piece job from to = take (to - from) (drop from job)

pub pieces_joined : (job : List ℕ) (from mid to : ℕ) → from ≤ mid → mid ≤ to → piece job from mid ++ piece job mid to ≡ piece job from to
pieces_joined job from mid to h g =
    let behind = drop from job in
    let reached : drop (mid - from) behind ≡ drop mid job = drop-drop (mid - from) from job ∙ ap (λ k. drop k job) (omega arith) in
    let sum : (mid - from) + (to - mid) ≡ to - from = omega arith in
    ap (λ x. take (mid - from) behind ++ take (to - mid) x) (sym reached) ∙ sym (take-add (mid - from) (to - mid) behind) ∙ ap (λ k. take k behind) sum

pub piece_none : (job : List ℕ) (at : ℕ) → piece job at at ≡ []
piece_none job at = let none : at - at ≡ 0 = omega arith in ap (λ k. take k (drop at job)) none

-- the bytes that a list begins with
same_bytes : (xs : List ℕ) → take (prefix_len is_control_d xs) xs ≡ replicate (prefix_len is_control_d xs) 4
same_bytes [] = refl
same_bytes (x ∷ xs) =
    let n = prefix_len is_control_d xs in
    let more : 1 + n ≡ suc n = omega arith in
    ⊎_elim
    (λ t. let four : x ≡ 4 = eqb-true _ _ t in rw t (rw more (ap (λ y. y ∷ take n xs) four ∙ ap (λ l. 4 ∷ l) (same_bytes xs))))
    (λ f. rw f refl)
    (cases_Bool (is_control_d x))

reverse-replicate : (n x : ℕ) → reverse (replicate n x) ≡ replicate n x
reverse-replicate zero x = refl
reverse-replicate (suc n) x =
    let one : n + 1 ≡ suc n = omega arith in
    reverse-append (x ∷ []) (replicate n x) ∙ ap (λ l. l ++ x ∷ []) (reverse-replicate n x) ∙ replicate_more n x ∙ ap (λ k. replicate k x) one

-- the last n, read from the end
last_turned : (xs : List ℕ) (n : ℕ) → n ≤ length xs → reverse (drop (length xs - n) xs) ≡ take n (reverse xs)
last_turned xs n h =
    let k : length (reverse (drop (length xs - n) xs)) ≡ n = length-reverse (drop (length xs - n) xs) ∙ length-drop (length xs - n) xs ∙ omega arith in
    sym (ap (λ ys. take n (reverse ys)) (sym (take-append-drop (length xs - n) xs)) ∙ ap (take n) (reverse-append (take (length xs - n) xs) (drop (length xs - n) xs)) ∙ take_at _ _ n k)

last_bytes : (xs : List ℕ) → drop (length xs - suffix_len is_control_d xs) xs ≡ replicate (suffix_len is_control_d xs) 4
last_bytes xs =
    let n = suffix_len is_control_d xs in
    let tail = drop (length xs - n) xs in
    sym (reverse-reverse tail) ∙ ap reverse (last_turned xs n (suffix_len-le-length is_control_d xs) ∙ same_bytes (reverse xs)) ∙ reverse-replicate n 4

pub front_is : (job : List ℕ) → take (start_of job) job ≡ replicate (start_of job) 4
front_is job = same_bytes job

pub back_is : (job : List ℕ) → drop (end_of job) job ≡ replicate (length job - end_of job) 4
back_is job =
    let start = start_of job in
    let behind = drop start job in
    let n = suffix_len is_control_d behind in
    let low : start ≤ length job = prefix_len-le-length is_control_d job in
    let few : n ≤ length behind = suffix_len-le-length is_control_d behind in
    let long : length behind ≡ length job - start = length-drop start job in
    let count : n ≡ length job - end_of job = omega arith in
    let place : start + (length behind - n) ≡ end_of job = omega arith in
    sym (drop-drop (length behind - n) start job ∙ ap (λ k. drop k job) place) ∙ last_bytes behind ∙ ap (λ k. replicate k 4) count

-- the job is the bytes at its ends and the piece between them
pub job_joined : (job : List ℕ) → start_of job ≤ end_of job
    → replicate (start_of job) 4 ++ piece job (start_of job) (end_of job) ++ replicate (length job - end_of job) 4 ≡ job
job_joined job h =
    let start = start_of job in
    let end = end_of job in
    let behind = drop start job in
    let reached : drop (end - start) behind ≡ drop end job = drop-drop (end - start) start job ∙ ap (λ k. drop k job) (omega arith) in
    ap (λ x. x ++ piece job start end ++ replicate (length job - end) 4) (sym (front_is job))
    ∙ ap (λ x. take start job ++ piece job start end ++ x) (sym (back_is job) ∙ sym reached)
    ∙ append_assoc (take start job) (piece job start end) (drop (end - start) behind)
    ∙ ap (λ x. take start job ++ x) (take-append-drop (end - start) behind)
    ∙ take-append-drop start job
