-- Tokens move on.
use Rattle.std.proofs.Common.{take, ◌≡◌, ℕ, zero, suc, ◌+◌, ◌≤◌, Bool, true, false, ◌&&◌, not, cond, eqb, List, [], ◌∷◌, length, drop, refl, ap, subst, sym, ◌∙◌, ◌||◌, arith, ◌<◌, ◌-◌}
use Rattle.std.specs.List.{position_or_len, before_first}
use Rattle.std.proofs.lemmas.Bool.{and_parts}
use Rattle.std.proofs.lemmas.Bool.Decides.{nat_tests}
use Rattle.std.proofs.lemmas.List.{length-take-le, length-drop, drop-drop}
use Rattle.std.proofs.lemmas.List.Sums.{prefix_len-le-length}
use Rattle.ps_scan.specs.Characters.{is_white, is_delimiter, is_line_end, blanks, closing}
use Rattle.ps_scan.specs.Token.{scan_of, name_token, row_token, after_row, row_at, name_at, slash_at, string_token, body_token, string_at, hex_token, hex_at, less_at, greater_at, bracket, special_at, token_from, token_at, MovesOn}
use Rattle.ps_scan.specs.Numbers.{is_integer, integer_value, is_decimal, is_radix}
use Rattle.std.specs.Prelude.{ℤ, nat_le, is_some, Option, Some, None, Result, Ok, Err}
use Rattle.std.specs.List.{prefix_len}
use Rattle.ps_names.specs.declared.error_name.ErrorName.{ErrorName}
use Rattle.ps_scan.specs.Strings.{is_hex, hex_bytes, onto, piece_byte, piece_length, depth_after, string_body}
use Rattle.ps_scan.specs.declared.rows.NameKind.{NameKind}
use Rattle.ps_scan.specs.declared.rows.NameKind.TheVariants as kinds
use Rattle.ps_scan.specs.declared.tokens.Token.{Token}
use Rattle.ps_scan.specs.declared.tokens.Scan.{Scan}
use Rattle.ps_scan.specs.declared.tokens.Scan.TheVariants as scans

closing_one : (white : Bool) → cond white 1 0 ≤ 1
closing_one true = omega arith
closing_one false = omega arith

closing_two : (first second : Bool) → cond first 2 (cond second 1 0) ≤ 2
closing_two true second = omega arith
closing_two false true = omega arith
closing_two false false = omega arith

closing-le-length : (text : List ℕ) → closing text ≤ length text
closing-le-length [] = omega arith
closing-le-length (b ∷ []) = closing_one (is_white b)
closing-le-length (b ∷ c ∷ bs) =
    let two = closing_two (eqb b 13 && eqb c 10) (is_white b) in omega arith

row-le-length : (text : List ℕ) → position_or_len is_delimiter text ≤ length text
row-le-length text = prefix_len-le-length (λ x. not (is_delimiter x)) text

pub length-row : (text : List ℕ) → length (before_first is_delimiter text) ≡ position_or_len is_delimiter text
length-row text = let within = row-le-length text in length-take-le (position_or_len is_delimiter text) text within

-- a row that begins with a regular character is not empty
row_is_longer : (b : ℕ) (bs : List ℕ) → is_delimiter b ≡ false → 1 ≤ position_or_len is_delimiter (b ∷ bs)
row_is_longer b bs d = rw d (omega arith)

-- a token or an error moves on where its place does
scan_moves : (found : Result Token ErrorName) (place end next : ℕ) → place < next → next ≤ end → MovesOn place end (scan_of found next)
scan_moves (Ok t) place end next h k = (h, k)
scan_moves (Err e) place end next h k = (h, k)

-- the end of a row, where some byte was read before it
after_row_moves : (place : ℕ) (text : List ℕ) → (place ≤ after_row place text) × (after_row place text ≤ place + length text)
unfolding after_row
after_row_moves place text =
    let row = before_first is_delimiter text in
    let e = length-row text in
    let within = row-le-length text in
    let tail = closing-le-length (drop (length row) text) in
    let rest = length-drop (length row) text in
    (omega arith, omega arith)

after_row_longer : (place : ℕ) (text : List ℕ) → 1 ≤ position_or_len is_delimiter text → place < after_row place text
unfolding after_row
after_row_longer place text h =
    let row = before_first is_delimiter text in
    let e = length-row text in
    omega arith

row_moves : (place : ℕ) (text : List ℕ) → 1 ≤ position_or_len is_delimiter text → MovesOn place (place + length text) (row_at place text)
unfolding row_at
row_moves place text h =
    scan_moves (row_token (before_first is_delimiter text)) place (place + length text) (after_row place text) (after_row_longer place text h) (after_row_moves place text).1

name_moves : (how : NameKind) (before place end : ℕ) (text : List ℕ) → before < place → place + length text ≤ end → MovesOn before end (name_at how place text)
unfolding name_at
name_moves how before place end text h k =
    let moved = after_row_moves place text in
    scan_moves (name_token how (before_first is_delimiter text)) before end (after_row place text) (omega arith) (omega arith)

slash_step : (before place b : ℕ) (bs : List ℕ) (slash : Bool) → eqb b 47 ≡ slash → before < place → MovesOn before (place + length (b ∷ bs)) (slash_at place (b ∷ bs))
unfolding slash_at
slash_step before place b bs true e h = rw e (name_moves kinds.Immediate before (place + 1) (place + length (b ∷ bs)) bs (omega arith) (omega arith))
slash_step before place b bs false e h = rw e (name_moves kinds.Literal before place (place + length (b ∷ bs)) (b ∷ bs) h (omega arith))

slash_moves : (before place : ℕ) (text : List ℕ) → before < place → MovesOn before (place + length text) (slash_at place text)
unfolding slash_at
slash_moves before place [] h = name_moves kinds.Literal before place (place + 0) [] h (omega arith)
slash_moves before place (b ∷ bs) h = slash_step before place b bs (eqb b 47) refl h

-- a string ends within the text
BodyWithin : ℕ → Option (List ℕ × ℕ) → Type 0
BodyWithin end None = Unit {0}
BodyWithin end (Some body) = body.1 ≤ end

onto_within : (byte : Option ℕ) (end : ℕ) (body : Option (List ℕ × ℕ)) → BodyWithin end body → BodyWithin (suc end) (onto byte body)
unfolding BodyWithin
onto_within None end None h = tt
onto_within (Some b) end None h = tt
onto_within None end (Some body) h = omega arith
onto_within (Some b) end (Some body) h = omega arith

closing_or_piece : (closing : Bool) (end : ℕ) (body : Option (List ℕ × ℕ)) → BodyWithin (suc end) body → BodyWithin (suc end) (cond closing (Some ([], 1)) body)
unfolding BodyWithin
closing_or_piece true end body h = omega arith
closing_or_piece false end body h = h

body_within : (depth passed : ℕ) (text : List ℕ) → BodyWithin (length text) (string_body depth passed text)
unfolding BodyWithin string_body
body_within depth zero [] = tt
body_within depth (suc passed) [] = tt
body_within depth (suc passed) (b ∷ bs) = onto_within None (length bs) (string_body depth passed bs) (body_within depth passed bs)
body_within depth zero (b ∷ bs) =
    closing_or_piece (eqb depth 0 && eqb b 41) (length bs) _
    (onto_within (piece_byte (b ∷ bs)) (length bs) _ (body_within (depth_after b depth) (piece_length (b ∷ bs) - 1) bs))

body_moves : (before place end : ℕ) (text : List ℕ) (body : Option (List ℕ × ℕ)) → before < place → BodyWithin (length text) body → end ≡ place + length text →
    MovesOn before end (body_token place end body)
unfolding BodyWithin
body_moves before place end text None h within e = (omega arith, omega arith)
body_moves before place end text (Some body) h within e = scan_moves (string_token body.0) before end (place + body.1) (omega arith) (omega arith)

string_moves : (before place : ℕ) (text : List ℕ) → before < place → MovesOn before (place + length text) (string_at place text)
unfolding string_at
string_moves before place text h = body_moves before place (place + length text) text (string_body 0 0 text) h (body_within 0 0 text) refl

hex_step : (digits : List ℕ) (before place b : ℕ) (bs : List ℕ) (angle : Bool) → eqb b 62 ≡ angle → before < place → MovesOn before (place + length (b ∷ bs)) (hex_token digits place (b ∷ bs))
hex_step digits before place b bs true e h = rw e (scan_moves (string_token (hex_bytes digits)) before (place + length (b ∷ bs)) (place + 1) (omega arith) (omega arith))
hex_step digits before place b bs false e h = rw e (omega arith, omega arith)

hex_rest_moves : (digits : List ℕ) (before place : ℕ) (rest : List ℕ) → before < place → MovesOn before (place + length rest) (hex_token digits place rest)
hex_rest_moves digits before place [] h = (h, omega arith)
hex_rest_moves digits before place (b ∷ bs) h = hex_step digits before place b bs (eqb b 62) refl h

hex_moves : (before place : ℕ) (text : List ℕ) → before < place → MovesOn before (place + length text) (hex_at place text)
unfolding hex_at
hex_moves before place text h =
    let n = prefix_len is_hex text in
    let whole : place + n + length (drop n text) ≡ place + length text = omega (arith, length-drop n text, prefix_len-le-length is_hex text) in
    subst (λ (end : ℕ). MovesOn before end (hex_at place text)) whole (hex_rest_moves (take n text) before (place + n) (drop n text) (omega arith))

less_step : (before place b : ℕ) (bs : List ℕ) (angle : Bool) → eqb b 60 ≡ angle → before < place → MovesOn before (place + length (b ∷ bs)) (less_at place (b ∷ bs))
unfolding less_at
less_step before place b bs true e h = rw e (omega arith, omega arith)
less_step before place b bs false e h = rw e (hex_moves before place (b ∷ bs) h)

less_moves : (before place : ℕ) (text : List ℕ) → before < place → MovesOn before (place + length text) (less_at place text)
unfolding less_at
less_moves before place [] h = hex_moves before place [] h
less_moves before place (b ∷ bs) h = less_step before place b bs (eqb b 60) refl h

greater_step : (before place b : ℕ) (bs : List ℕ) (angle : Bool) → eqb b 62 ≡ angle → before < place → MovesOn before (place + length (b ∷ bs)) (greater_at place (b ∷ bs))
unfolding greater_at
greater_step before place b bs true e h = rw e (omega arith, omega arith)
greater_step before place b bs false e h = rw e (omega arith, omega arith)

greater_moves : (before place : ℕ) (text : List ℕ) → before < place → MovesOn before (place + length text) (greater_at place text)
unfolding greater_at
greater_moves before place [] h = (h, omega arith)
greater_moves before place (b ∷ bs) h = greater_step before place b bs (eqb b 62) refl h

bracket_step : (before place end b : ℕ) (square opening closing : Bool) → (eqb b 91 || eqb b 93) ≡ square → eqb b 123 ≡ opening → eqb b 125 ≡ closing →
    before < place → place ≤ end → MovesOn before end (bracket place b)
unfolding bracket
bracket_step before place end b true opening closing s o c h k = rw s (h, k)
bracket_step before place end b false true closing s o c h k = rw (s, o) (h, k)
bracket_step before place end b false false true s o c h k = rw (s, o, c) (h, k)
bracket_step before place end b false false false s o c h k = rw (s, o, c) (h, k)

special_step : (before place b : ℕ) (bs : List ℕ) (slash parenthesis less greater : Bool) → eqb b 47 ≡ slash → eqb b 40 ≡ parenthesis → eqb b 60 ≡ less → eqb b 62 ≡ greater →
    before < place → MovesOn before (place + length bs) (special_at place b bs)
unfolding special_at
special_step before place b bs true parenthesis less greater s p l g h = rw s (slash_moves before place bs h)
special_step before place b bs false true less greater s p l g h = rw (s, p) (string_moves before place bs h)
special_step before place b bs false false true greater s p l g h = rw (s, p, l) (less_moves before place bs h)
special_step before place b bs false false false true s p l g h = rw (s, p, l, g) (greater_moves before place bs h)
special_step before place b bs false false false false s p l g h =
    rw (s, p, l, g) (bracket_step before place (place + length bs) b (eqb b 91 || eqb b 93) (eqb b 123) (eqb b 125) refl refl refl h (omega arith))

from_step : (place b : ℕ) (bs : List ℕ) (delimiter : Bool) → is_delimiter b ≡ delimiter → MovesOn place (place + length (b ∷ bs)) (token_from place (b ∷ bs))
unfolding token_from
from_step place b bs true d =
    let whole : place + 1 + length bs ≡ place + length (b ∷ bs) = omega arith in
    rw d (subst (λ (end : ℕ). MovesOn place end (special_at (place + 1) b bs)) whole
    (special_step place (place + 1) b bs (eqb b 47) (eqb b 40) (eqb b 60) (eqb b 62) refl refl refl refl (omega arith)))
from_step place b bs false d = rw d (row_moves place (b ∷ bs) (row_is_longer b bs d))

from_moves : (place : ℕ) (text : List ℕ) → MovesOn place (place + length text) (token_from place text)
unfolding token_from
from_moves place [] = tt
from_moves place (b ∷ bs) = from_step place b bs (is_delimiter b) refl

moves_sooner : (scan : Scan) (place start end : ℕ) → place ≤ start → MovesOn start end scan → MovesOn place end scan
moves_sooner (scans.Token t n) place start end h m = (omega arith, m.1)
moves_sooner (scans.Bad e n) place start end h m = (omega arith, m.1)
moves_sooner scans.End place start end h m = tt

blanks-le-length : (in_comment : Bool) (text : List ℕ) → blanks in_comment text ≤ length text
unfolding blanks
blanks-le-length in_comment [] = omega arith
blanks-le-length in_comment (b ∷ bs) =
    blanks_fit (is_line_end b) (in_comment || eqb b 37) (is_white b) (blanks false bs) (blanks true bs) (length bs) (blanks-le-length false bs) (blanks-le-length true bs)
  where
    blanks_fit : (line_end comment white : Bool) (m n len : ℕ) → m ≤ len → n ≤ len → cond line_end (1 + m) (cond comment (1 + n) (cond white (1 + m) 0)) ≤ suc len
    blanks_fit true comment white m n len p q = omega arith
    blanks_fit false true white m n len p q = omega arith
    blanks_fit false false true m n len p q = omega arith
    blanks_fit false false false m n len p q = omega arith

pub at_moves : (text : List ℕ) (place : ℕ) → place ≤ length text → MovesOn place (length text) (token_at text place)
unfolding token_at
at_moves text place h =
    let rest = drop place text in
    let start = place + blanks false rest in
    let front = drop (blanks false rest) rest in
    let whole : start + length front ≡ length text =
    omega (arith, blanks-le-length false rest, length-drop (blanks false rest) rest, length-drop place text) in
    let moved : MovesOn start (length text) (token_from start front) =
    subst (λ (end : ℕ). MovesOn start end (token_from start front)) whole (from_moves start front) in
    moves_sooner (token_from start front) place start (length text) (omega arith) moved
