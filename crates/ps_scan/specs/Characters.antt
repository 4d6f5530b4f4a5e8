-- White space, special characters and comments.
use Rattle.std.specs.Prelude.{ℕ, ◌+◌, Bool, true, false, ◌&&◌, ◌||◌, ◌==◌, List, [], ◌∷◌, if◌then◌else◌}

-- NUL, TAB, LF, FF, CR and SPACE
abbrev pub is_white : ℕ → Bool
is_white b = b == 0 || b == 9 || b == 10 || b == 12 || b == 13 || b == 32

-- ( ) < > [ ] { } / and %
abbrev pub is_special : ℕ → Bool
is_special b = b == 40 || b == 41 || b == 60 || b == 62 || b == 91 || b == 93 || b == 123 || b == 125 || b == 47 || b == 37

-- white space and special characters end a row of regular characters
abbrev pub is_delimiter : ℕ → Bool
is_delimiter b = is_white b || is_special b

-- LF, FF and CR end a comment
abbrev pub is_line_end : ℕ → Bool
is_line_end b = b == 10 || b == 12 || b == 13

-- how many bytes at the front are white space or of a comment, where the front is in a comment, or is not
unfoldable pub blanks : Bool → List ℕ → ℕ
blanks in_comment [] = 0
blanks in_comment (b ∷ bs) =
    if is_line_end b then 1 + blanks false bs
    else (if in_comment || b == 37 then 1 + blanks true bs
    else (if is_white b then 1 + blanks false bs
    else 0))

-- how many bytes of white space end a name or a number: one, or CR LF
abbrev pub closing : List ℕ → ℕ
closing [] = 0
closing (b ∷ []) = if is_white b then 1 else 0
closing (b ∷ c ∷ bs) = if b == 13 && c == 10 then 2 else (if is_white b then 1 else 0)
