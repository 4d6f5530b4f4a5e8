-- Strings, a piece at a time.
use Rattle.std.proofs.Common.{◌≡◌, ℕ, zero, suc, ◌+◌, ◌-◌, ◌*◌, ◌%◌, ◌^◌, min, ◌<◌, ◌≤◌, Bool, true, false, ◌&&◌, cond, eqb, List, [], ◌∷◌, ◌++◌, length, take, drop, get_or, Option, Some, None, option_to_list, append_assoc, length-append, refl, ap, sym, ◌∙◌, arith}
use Rattle.std.proofs.lemmas.List.{take_all, take-append-le, append-nil, length-drop, length-take, at_drop_more}
use Rattle.std.proofs.lemmas.Bool.Decides.{nat_tests}
use Rattle.std.specs.Prelude.{filter}
use Rattle.std.specs.Char.{digit_value}
use Rattle.std.specs.Str.Parse.{digits_value}
use Rattle.ps_scan.specs.Strings.{string_limit, is_octal, octal_length, begins_with_feed, escape_length, escape_byte, piece_length, piece_byte, depth_after, is_hex_digit, pairs, onto, string_body}
use Rattle.std.specs.Prelude.{nat_le, Result, Ok, Err}
use Rattle.ps_names.specs.declared.error_name.ErrorName.{ErrorName}
use Rattle.ps_names.specs.declared.error_name.ErrorName.TheVariants.{LimitCheck}
use Rattle.ps_scan.specs.Token.{scan_of, string_token}
use Rattle.ps_scan.specs.declared.tokens.Token.{Token}
use Rattle.ps_scan.specs.declared.tokens.Token.TheVariants as token
use Rattle.ps_scan.specs.declared.tokens.Scan.{Scan}
use Rattle.ps_scan.specs.Limited.{Keeps}
use Rattle.ps_scan.specs.declared.strings.Limited.{Limited}

-- a body behind bytes that were read, of so many bytes of text
abbrev pub ahead : List ℕ → ℕ → Option (List ℕ × ℕ) → Option (List ℕ × ℕ)
ahead bytes taken None = None
ahead bytes taken (Some body) = Some (bytes ++ body.0, taken + body.1)

abbrev body_of : List ℕ → ℕ → Option (List ℕ × ℕ)
body_of bytes taken = Some (bytes, taken)

-- equal parts make equal bodies
same_body : (a b : List ℕ) (m n : ℕ) → a ≡ b → m ≡ n → body_of a m ≡ body_of b n
same_body a b m n e f = ap (λ (x : List ℕ). body_of x m) e ∙ ap (body_of b) f

pub ahead_ahead : (a b : List ℕ) (m n : ℕ) (x : Option (List ℕ × ℕ)) → ahead a m (ahead b n x) ≡ ahead (a ++ b) (m + n) x
ahead_ahead a b m n None = refl
ahead_ahead a b m n (Some body) = same_body _ _ _ _ (sym (append_assoc a b body.0)) (omega arith)

ahead_nothing : (x : Option (List ℕ × ℕ)) → ahead [] 0 x ≡ x
ahead_nothing None = refl
ahead_nothing (Some body) = same_body body.0 body.0 (0 + body.1) body.1 refl (omega arith)

onto_ahead : (k : ℕ) (x : Option (List ℕ × ℕ)) → onto None (ahead [] k x) ≡ ahead [] (suc k) x
onto_ahead k None = refl
onto_ahead k (Some body) = same_body body.0 body.0 (k + body.1 + 1) (suc k + body.1) refl (omega arith)

-- bytes that belong to a piece that was read are passed over
string_pass : (depth k : ℕ) (rest : List ℕ) → string_body depth k rest ≡ ahead [] k (string_body depth 0 (drop k rest))
unfolding string_body
string_pass depth zero [] = refl
string_pass depth (suc k) [] = refl
string_pass depth zero (b ∷ bs) = sym (ahead_nothing (string_body depth 0 (b ∷ bs)))
string_pass depth (suc k) (b ∷ bs) = ap (onto None) (string_pass depth k bs) ∙ onto_ahead k (string_body depth 0 (drop k bs))

onto_piece : (byte : Option ℕ) (n : ℕ) (x : Option (List ℕ × ℕ)) → 1 ≤ n → onto byte (ahead [] (n - 1) x) ≡ ahead (option_to_list byte) n x
onto_piece None n None h = refl
onto_piece (Some b) n None h = refl
onto_piece None n (Some body) h = same_body body.0 body.0 (n - 1 + body.1 + 1) (n + body.1) refl (omega arith)
onto_piece (Some b) n (Some body) h = same_body (b ∷ body.0) (b ∷ body.0) (n - 1 + body.1 + 1) (n + body.1) refl (omega arith)

longer_piece : (backslash feed : Bool) (n : ℕ) → 1 ≤ cond backslash (1 + n) (cond feed 2 1)
longer_piece true feed n = omega arith
longer_piece false true n = omega arith
longer_piece false false n = omega arith

pub piece_positive : (b : ℕ) (bs : List ℕ) → 1 ≤ piece_length (b ∷ bs)
unfolding piece_length
piece_positive b bs = longer_piece (eqb b 92) (eqb b 13 && begins_with_feed bs) (escape_length bs)

drop_less : (n b : ℕ) (bs : List ℕ) → 1 ≤ n → drop (n - 1) bs ≡ drop n (b ∷ bs)
drop_less zero b bs h = absurd (omega arith)
drop_less (suc k) b bs h = ap (λ (j : ℕ). drop j bs) (omega arith)

piece_opens : (depth b : ℕ) (bs : List ℕ) → (eqb depth 0 && eqb b 41) ≡ false →
    string_body depth 0 (b ∷ bs) ≡ onto (piece_byte (b ∷ bs)) (string_body (depth_after b depth) (piece_length (b ∷ bs) - 1) bs)
unfolding string_body
piece_opens depth b bs h = rw h refl

-- a piece at the front of what is left
pub piece_step : (depth b : ℕ) (bs : List ℕ) → (eqb depth 0 && eqb b 41) ≡ false →
    string_body depth 0 (b ∷ bs)
    ≡ ahead (option_to_list (piece_byte (b ∷ bs))) (piece_length (b ∷ bs)) (string_body (depth_after b depth) 0 (drop (piece_length (b ∷ bs)) (b ∷ bs)))
piece_step depth b bs h =
    let n = piece_length (b ∷ bs) in
    let positive : 1 ≤ n = piece_positive b bs in
    piece_opens depth b bs h
    ∙ ap (onto (piece_byte (b ∷ bs))) (string_pass (depth_after b depth) (n - 1) bs)
    ∙ onto_piece (piece_byte (b ∷ bs)) n (string_body (depth_after b depth) 0 (drop (n - 1) bs)) positive
    ∙ ap (λ (rest : List ℕ). ahead (option_to_list (piece_byte (b ∷ bs))) n (string_body (depth_after b depth) 0 rest)) (drop_less n b bs positive)

-- a byte within a limit, and one beyond it
within_limit : (limit : ℕ) (text bytes : List ℕ) (n byte : ℕ) → text ≡ take limit bytes → n ≡ length bytes → n < limit →
    text ++ (byte ∷ []) ≡ take limit (bytes ++ (byte ∷ []))
within_limit limit text bytes n byte is count below =
    ap (λ (t : List ℕ). t ++ (byte ∷ [])) (is ∙ take_all limit bytes (omega arith))
    ∙ sym (take_all limit (bytes ++ (byte ∷ [])) (omega (arith, length-append bytes (byte ∷ []))))

beyond_limit : (limit : ℕ) (text bytes : List ℕ) (n byte : ℕ) → text ≡ take limit bytes → n ≡ length bytes → limit ≤ n →
    text ≡ take limit (bytes ++ (byte ∷ []))
beyond_limit limit text bytes n byte is count above = is ∙ sym (take-append-le limit bytes (byte ∷ []) (omega arith))

count_push : (bytes : List ℕ) (n byte : ℕ) → n ≡ length bytes → n + 1 ≡ length (bytes ++ (byte ∷ []))
count_push bytes n byte h = omega (arith, length-append bytes (byte ∷ []))

pub keeps_within : (text bytes : List ℕ) (n byte : ℕ) → n < 65535 → Keeps (record { text = text; length = n }) bytes →
    Keeps (record { text = text ++ (byte ∷ []); length = n + 1 }) (bytes ++ (byte ∷ []))
unfolding string_limit
keeps_within text bytes n byte below keeps =
    record { text = within_limit 65535 text bytes n byte keeps.text keeps.length below; length = count_push bytes n byte keeps.length }

pub keeps_beyond : (text bytes : List ℕ) (n byte : ℕ) → 65535 ≤ n → Keeps (record { text = text; length = n }) bytes →
    Keeps (record { text = text; length = n + 1 }) (bytes ++ (byte ∷ []))
unfolding string_limit
keeps_beyond text bytes n byte above keeps =
    record { text = beyond_limit 65535 text bytes n byte keeps.text keeps.length above; length = count_push bytes n byte keeps.length }

digit_small : (c : ℕ) → digit_value c ≤ 36
digit_small c = grind (arith, nat_tests)

-- three digits make a small number
pub octal_small : (digits : List ℕ) → length digits ≤ 3 → digits_value 8 digits ≤ 2628
octal_small [] h = omega arith
octal_small (a ∷ []) h = omega (arith, digit_small a)
octal_small (a ∷ b ∷ []) h = omega (arith, digit_small a, digit_small b)
octal_small (a ∷ b ∷ c ∷ []) h = omega (arith, digit_small a, digit_small b, digit_small c)
octal_small (a ∷ b ∷ c ∷ d ∷ ds) h = absurd (omega arith)

-- what was read, and what is left: together they give what stands behind the parenthesis
abbrev pub Read : Limited → List ℕ → List ℕ → ℕ → Type 0
Read limited text rest depth = (bytes : List ℕ) × (Keeps limited bytes
    × (string_body 0 0 text ≡ ahead bytes (length text - length rest) (string_body depth 0 rest)))

closes : (depth b : ℕ) (bs : List ℕ) → (eqb depth 0 && eqb b 41) ≡ true → string_body depth 0 (b ∷ bs) ≡ Some ([], 1)
unfolding string_body
closes depth b bs h = rw h refl

pub body_closed : (limited : Limited) (text rest tail : List ℕ) (depth b : ℕ) → rest ≡ b ∷ tail → (eqb depth 0 && eqb b 41) ≡ true →
    Read limited text rest depth → (bytes : List ℕ) × (Keeps limited bytes × (string_body 0 0 text ≡ Some (bytes, length text - length rest + 1)))
body_closed limited text rest tail depth b is closing read =
    let taken = length text - length rest in (
      read.0,
      (
        read.1.0,
        read.1.1 ∙ ap (ahead read.0 taken) (ap (string_body depth 0) is ∙ closes depth b tail closing)
            ∙ same_body (read.0 ++ []) read.0 (taken + 1) (taken + 1) (append-nil read.0) refl,
      ),
    )

step_at : (rest tail after : List ℕ) (depth b n : ℕ) (byte : Option ℕ) → rest ≡ b ∷ tail → (eqb depth 0 && eqb b 41) ≡ false →
    byte ≡ piece_byte rest → n ≡ piece_length rest → after ≡ drop n rest →
    string_body depth 0 rest ≡ ahead (option_to_list byte) n (string_body (depth_after b depth) 0 after)
step_at rest tail after depth b n byte is stays byte_is n_is after_is =
    let p : piece_byte (b ∷ tail) ≡ byte = ap piece_byte (sym is) ∙ sym byte_is in
    let q : piece_length (b ∷ tail) ≡ n = ap piece_length (sym is) ∙ sym n_is in
    let r : drop n (b ∷ tail) ≡ after = ap (drop n) (sym is) ∙ sym after_is in
    let deeper = depth_after b depth in
    ap (string_body depth 0) is ∙ piece_step depth b tail stays
    ∙ ap (λ (x : Option ℕ). ahead (option_to_list x) (piece_length (b ∷ tail)) (string_body deeper 0 (drop (piece_length (b ∷ tail)) (b ∷ tail)))) p
    ∙ ap (λ (k : ℕ). ahead (option_to_list byte) k (string_body deeper 0 (drop k (b ∷ tail)))) q
    ∙ ap (λ (s : List ℕ). ahead (option_to_list byte) n (string_body deeper 0 s)) r

pub body_step : (limited new : Limited) (text rest tail after : List ℕ) (depth deeper b n : ℕ) (byte : Option ℕ) →
    rest ≡ b ∷ tail → (eqb depth 0 && eqb b 41) ≡ false → byte ≡ piece_byte rest → n ≡ piece_length rest → after ≡ drop n rest → deeper ≡ depth_after b depth →
    n ≤ length rest → length rest ≤ length text → ((bytes : List ℕ) → Keeps limited bytes → Keeps new (bytes ++ option_to_list byte)) →
    Read limited text rest depth → Read new text after deeper
body_step limited new text rest tail after depth deeper b n byte is stays byte_is n_is after_is deeper_is within inside push read =
    let count : length text - length rest + n ≡ length text - length after = omega (arith, ap length after_is, length-drop n rest) in (
      read.0 ++ option_to_list byte,
      (
        push read.0 read.1.0,
        read.1.1
            ∙ ap (ahead read.0 (length text - length rest)) (step_at rest tail after depth b n byte is stays byte_is n_is after_is)
            ∙ ahead_ahead read.0 (option_to_list byte) (length text - length rest) n (string_body (depth_after b depth) 0 after)
            ∙ ap (λ (k : ℕ). ahead (read.0 ++ option_to_list byte) k (string_body (depth_after b depth) 0 after)) count
            ∙ ap (λ (d : ℕ). ahead (read.0 ++ option_to_list byte) (length text - length after) (string_body d 0 after)) (sym deeper_is),
      ),
    )

pub body_cut : (limited : Limited) (text rest : List ℕ) (depth : ℕ) → length rest ≡ 0 → Read limited text rest depth → string_body 0 0 text ≡ None
unfolding string_body
body_cut limited text [] depth h read = read.1.1
body_cut limited text (b ∷ bs) depth h read = absurd (omega arith)

pub body_begins : (limited : Limited) (text : List ℕ) → Keeps limited [] → Read limited text text 0
body_begins limited text keeps =
    let none : length text - length text ≡ 0 = omega arith in
    ([], (keeps, sym (ap (λ (k : ℕ). ahead [] k (string_body 0 0 text)) none ∙ ahead_nothing (string_body 0 0 text))))

cond_true : {X : Type 0} (b : Bool) (x y : X) → b ≡ true → cond b x y ≡ x
cond_true true x y h = refl
cond_true false x y h = cc

depth_tests : (opening closing : Bool) (depth : ℕ) → cond opening (depth + 1) (cond closing (depth - 1) depth) ≤ depth + 1
depth_tests true closing depth = omega arith
depth_tests false true depth = omega arith
depth_tests false false depth = omega arith

pub depth_grows : (b depth : ℕ) → depth_after b depth ≤ depth + 1
depth_grows b depth = depth_tests (eqb b 40) (eqb b 41) depth

-- octal digits behind a backslash
pub escape_octal : (text : List ℕ) (b : ℕ) (bs : List ℕ) (n : ℕ) (digits : List ℕ) (value : ℕ) → text ≡ b ∷ bs → is_octal b ≡ true →
    n ≡ octal_length text → digits ≡ take n text → value ≡ min (digits_value 8 digits) (2 ^ 64 - 1) → Some (value % 256) ≡ escape_byte text
unfolding escape_byte
escape_octal [] b bs n digits value is octal n_is digits_is value_is = cc
escape_octal (a ∷ ds) b bs n digits value is octal n_is digits_is value_is =
    let same : a ≡ b = cc in
    let octal_a : is_octal a ≡ true = ap is_octal same ∙ octal in
    let is_take : digits ≡ take (octal_length (a ∷ ds)) (a ∷ ds) = digits_is ∙ ap (λ (k : ℕ). take k (a ∷ ds)) n_is in
    let short : length digits ≤ 3 = omega (arith, ap length digits_is, length-take n (a ∷ ds)) in
    let exact : value ≡ digits_value 8 (take (octal_length (a ∷ ds)) (a ∷ ds)) = omega (arith, octal_small digits short) ∙ ap (digits_value 8) is_take in
    ap (λ (v : ℕ). Some (v % 256)) exact ∙ sym (cond_true (is_octal a) _ _ octal_a)

cond_false : {X : Type 0} (b : Bool) (x y : X) → b ≡ false → cond b x y ≡ y
cond_false true x y h = cc
cond_false false x y h = refl

-- Hexadecimal digits, one at a time.
filter_at : (text : List ℕ) (i : ℕ) → i < length text →
    filter is_hex_digit (drop i text) ≡ cond (is_hex_digit (get_or text i 0)) (get_or text i 0 ∷ filter is_hex_digit (drop (i + 1) text)) (filter is_hex_digit (drop (i + 1) text))
filter_at text i within = at_drop_more (filter is_hex_digit) text i 0 within

pub hex_other : (bytes : List ℕ) (first : Option ℕ) (text : List ℕ) (i : ℕ) (whole : List ℕ) → i < length text → is_hex_digit (get_or text i 0) ≡ false →
    whole ≡ bytes ++ pairs (option_to_list first ++ filter is_hex_digit (drop i text)) → whole ≡ bytes ++ pairs (option_to_list first ++ filter is_hex_digit (drop (i + 1) text))
hex_other bytes first text i whole within other is =
    is ∙ ap (λ (ds : List ℕ). bytes ++ pairs (option_to_list first ++ ds)) (filter_at text i within ∙ cond_false (is_hex_digit (get_or text i 0)) _ _ other)

pub hex_first : (bytes : List ℕ) (text : List ℕ) (i : ℕ) (whole : List ℕ) → i < length text → is_hex_digit (get_or text i 0) ≡ true →
    whole ≡ bytes ++ pairs (filter is_hex_digit (drop i text)) → whole ≡ bytes ++ pairs (get_or text i 0 ∷ filter is_hex_digit (drop (i + 1) text))
hex_first bytes text i whole within digit is =
    is ∙ ap (λ (ds : List ℕ). bytes ++ pairs ds) (filter_at text i within ∙ cond_true (is_hex_digit (get_or text i 0)) _ _ digit)

pub hex_second : (bytes : List ℕ) (high : ℕ) (text : List ℕ) (i : ℕ) (whole : List ℕ) → i < length text → is_hex_digit (get_or text i 0) ≡ true →
    whole ≡ bytes ++ pairs (high ∷ filter is_hex_digit (drop i text)) →
    whole ≡ (bytes ++ ((digit_value high * 16 + digit_value (get_or text i 0)) ∷ [])) ++ pairs (filter is_hex_digit (drop (i + 1) text))
hex_second bytes high text i whole within digit is =
    is ∙ ap (λ (ds : List ℕ). bytes ++ pairs (high ∷ ds)) (filter_at text i within ∙ cond_true (is_hex_digit (get_or text i 0)) _ _ digit)
    ∙ sym (append_assoc bytes ((digit_value high * 16 + digit_value (get_or text i 0)) ∷ []) (pairs (filter is_hex_digit (drop (i + 1) text))))

-- what was read of a string in angle brackets, with a digit that waits for its second
abbrev pub HexRead : Limited → Option ℕ → List ℕ → ℕ → Type 0
HexRead limited first text i = (bytes : List ℕ) × (Keeps limited bytes
    × (pairs (filter is_hex_digit text) ≡ bytes ++ pairs (option_to_list first ++ filter is_hex_digit (drop i text))))

pub hex_none : (limited : Limited) (text : List ℕ) (i : ℕ) → i < length text → is_hex_digit (get_or text i 0) ≡ true →
    HexRead limited None text i → HexRead limited (Some (get_or text i 0)) text (i + 1)
hex_none limited text i within digit read = (read.0, (read.1.0, hex_first read.0 text i _ within digit read.1.1))

pub hex_some : (limited new : Limited) (high : ℕ) (text : List ℕ) (i : ℕ) → i < length text → is_hex_digit (get_or text i 0) ≡ true →
    ((bytes : List ℕ) → Keeps limited bytes → Keeps new (bytes ++ ((digit_value high * 16 + digit_value (get_or text i 0)) ∷ []))) →
    HexRead limited (Some high) text i → HexRead new None text (i + 1)
hex_some limited new high text i within digit push read =
    (read.0 ++ ((digit_value high * 16 + digit_value (get_or text i 0)) ∷ []), (push read.0 read.1.0, hex_second read.0 high text i _ within digit read.1.1))

pub hex_skips : (limited : Limited) (first : Option ℕ) (text : List ℕ) (i : ℕ) → i < length text → is_hex_digit (get_or text i 0) ≡ false →
    HexRead limited first text i → HexRead limited first text (i + 1)
hex_skips limited first text i within other read = (read.0, (read.1.0, hex_other read.0 first text i _ within other read.1.1))

-- a string that is too long, and one that is not
pub too_long : (limited : Limited) (bytes : List ℕ) (next : ℕ) (found : Scan) → 65535 < limited.length → Keeps limited bytes →
    found ≡ scan_of (Err LimitCheck) next → found ≡ scan_of (string_token bytes) next
unfolding string_limit
too_long limited bytes next found above keeps is =
    let long : 65535 < length bytes = omega (arith, keeps.length) in
    let test : nat_le (length bytes) 65535 ≡ false = grind (arith, nat_tests) in
    is ∙ ap (λ (r : Result Token ErrorName). scan_of r next) (sym (cond_false (nat_le (length bytes) 65535) (Ok (token.Str bytes)) (Err LimitCheck) test))

pub short_enough : (limited : Limited) (bytes : List ℕ) (next : ℕ) → limited.length ≤ 65535 → Keeps limited bytes →
    scan_of (Ok (token.Str limited.text)) next ≡ scan_of (string_token bytes) next
unfolding string_limit
short_enough limited bytes next below keeps =
    let short : length bytes ≤ 65535 = omega (arith, keeps.length) in
    let test : nat_le (length bytes) 65535 ≡ true = grind (arith, nat_tests) in
    let same : limited.text ≡ bytes = keeps.text ∙ take_all 65535 bytes short in
    ap (λ (t : List ℕ). scan_of (Ok (token.Str t)) next) same
    ∙ ap (λ (r : Result Token ErrorName). scan_of r next) (sym (cond_true (nat_le (length bytes) 65535) (Ok (token.Str bytes)) (Err LimitCheck) test))
