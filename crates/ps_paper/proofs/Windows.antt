-- The part of some spans that lies in a row.
use Rattle.std.proofs.Common.{◌≡◌, ◌≢◌, ℕ, ◌+◌, ◌-◌, ◌<◌, ◌≤◌, ◌&&◌, ◌||◌, inl, inr, Bool, true, false, List, length, get_or, take, drop, nat_le, nat_lt, refl, ap, sym, ◌∙◌, arith}
use Rattle.std.specs.List.{AllWithin}
use Rattle.std.specs.List.Sorted.{IsNonDecreasingBy}
use Rattle.std.proofs.lemmas.Bool.{cases_eq, ne_eqb}
use Rattle.std.proofs.lemmas.List.{get_or-take, get_or-drop, take-append-drop, length-take-le, length-drop}
use Rattle.std.proofs.lemmas.List.Elements.{All-from_get_or}
use Rattle.std.proofs.lemmas.List.Folds.{list_any-append, list_any_none}
use Rattle.ps_shapes.specs.Span.{holds, is_in, IsOrdered}
use Rattle.ps_shapes.specs.declared.span.Span.{Span}

pub rows_in_order : (spans : List Span) → IsOrdered spans → IsNonDecreasingBy (λ (s : Span). s.row) spans
rows_in_order spans o i j d p q =
    elim (cases_eq i j) [
      | inl e ↦ (let same : (get_or spans i d).row ≡ (get_or spans j d).row = ap (λ k. (get_or spans k d).row) e in omega arith)
      | inr ne ↦ (o.apart i j d (omega arith) q).0
    ]

not_held : (x row : ℕ) (s : Span) → s.row ≢ row → holds x row s ≡ false
not_held x row s h = ap (λ t. t && nat_le s.first x && nat_lt x s.past) (ne_eqb s.row row h)

none_in : (x row : ℕ) (spans : List Span) → ((k : ℕ) (d : Span) → k < length spans → (get_or spans k d).row ≢ row) → is_in spans x row ≡ false
none_in x row spans h =
    let d : Span = record { row = 0; first = 0; past = 0 } in
    list_any_none (holds x row) spans (All-from_get_or (λ s. holds x row s ≡ false) spans d (λ k p. not_held x row (get_or spans k d) (h k d p)))

both_none : (a b c : Bool) → a ≡ false → c ≡ false → b ≡ (a || (b || c))
both_none a b c p q = rw (p, q) (alone b)
  where
    alone : (b : Bool) → b ≡ (false || (b || false))
    alone true = refl
    alone false = refl

pub window : (spans : List Span) (row start past : ℕ) → start ≤ past → past ≤ length spans → AllWithin (λ (s : Span). s.row < row) spans 0 start → AllWithin (λ (s : Span). row < s.row) spans past (length spans) → (x : ℕ) → is_in (take (past - start) (drop start spans)) x row ≡ is_in spans x row
window spans row start past p q above below x =
    let front = take start spans in
    let tail = drop start spans in
    let middle = take (past - start) tail in
    let end = drop (past - start) tail in
    let f : is_in front x row ≡ false = none_in x row front (λ k d h e.
    let within : k < start = omega (arith, length-take-le start spans (omega arith)) in
    let low : (get_or spans k d).row < row = above k d (omega arith) within in
    let same : (get_or front k d).row ≡ (get_or spans k d).row = ap (λ (s : Span). s.row) (get_or-take start spans k d within) in
    omega arith) in
    let g : is_in end x row ≡ false = none_in x row end (λ k d h e.
    let at = start + (past - start + k) in
    let within : at < length spans = omega (arith, length-drop (past - start) tail, length-drop start spans) in
    let high : row < (get_or spans at d).row = below at d (omega arith) within in
    let same : (get_or end k d).row ≡ (get_or spans at d).row = ap (λ (s : Span). s.row) (get_or-drop (past - start) tail k d ∙ get_or-drop start spans (past - start + k) d) in
    omega arith) in
    both_none (is_in front x row) (is_in middle x row) (is_in end x row) f g
    ∙ sym (ap (λ l. is_in l x row) (sym (take-append-drop start spans))
    ∙ list_any-append (holds x row) front tail
    ∙ ap (λ b. is_in front x row || b) (ap (λ l. is_in l x row) (sym (take-append-drop (past - start) tail)) ∙ list_any-append (holds x row) middle end))
