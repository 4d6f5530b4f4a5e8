-- What a source gives in turn.
use Rattle.std.proofs.Common.{◌≡◌, ℕ, ◌+◌, ◌<◌, ◌≤◌, ◌↔◌, List, [], ◌++◌, length, take, drop, Option, Some, None, refl, ap, subst, sym, ◌∙◌, append_assoc, length-append, arith}
use Rattle.std.specs.Prelude.{option_map, IfSome}
use Rattle.std.proofs.Math.Seq.{drop-append_seam}
use Rattle.rip_ports.specs.Ports.{Gives, GivesNoneAtEnd}
use Rattle.rip_run.specs.Reading.{IsAtEnd}

pub more_given : (job piece : List ℕ) (start before after : Option (List ℕ)) →
    Gives job start before → Gives piece before after → Gives (job ++ piece) start after
more_given job piece start before None g h = g ∙ ap (option_map (λ rest. job ++ rest)) h
more_given job piece start before (Some rest) g h =
    g ∙ ap (option_map (λ r. job ++ r)) h ∙ ap Some (sym (append_assoc job piece rest))

pub at_end : (piece : List ℕ) (count : ℕ) (before after : Option (List ℕ)) →
    count ≡ 0 → GivesNoneAtEnd count before → Gives (take count piece) before after → IsAtEnd after
at_end piece count before None z e g = tt
at_end piece count before (Some rest) z e g =
    let told : GivesNoneAtEnd count (Some (take count piece ++ rest)) = subst (GivesNoneAtEnd count) g e in
    sym (ap (λ n. take n piece ++ rest) z) ∙ told.0 z

pub none_given : (start : Option (List ℕ)) → Gives [] start start
none_given None = refl
none_given (Some bytes) = refl

pub longer : (most : ℕ) (job : List ℕ) (start after : Option (List ℕ)) →
    Gives job start after → most < length job → length job ≤ most + 1 → IfSome start (λ bytes. (most < length bytes) × (after ≡ Some (drop (most + 1) bytes)))
longer most job start None g h k =
    let P : Option (List ℕ) → Type 0 = λ s. IfSome s (λ bytes. (most < length bytes) × (None ≡ Some (drop (most + 1) bytes))) in
    subst P (sym g) tt
longer most job start (Some rest) g h k =
    let P : Option (List ℕ) → Type 0 = λ s. IfSome s (λ bytes. (most < length bytes) × (Some rest ≡ Some (drop (most + 1) bytes))) in
    let n : length job ≡ most + 1 = omega arith in
    subst P (sym g) (omega (arith, length-append job rest), ap Some (sym (drop-append_seam job rest) ∙ ap (λ m. drop m (job ++ rest)) n))
