-- Strings between parentheses.
use Rattle.std.specs.Prelude.{ℕ, zero, suc, ◌+◌, ◌/◌, ◌%◌, Bool, ◌&&◌, ◌||◌, nat_le, nat_eq, if◌then◌else◌, List, [], ◌∷◌, ◌++◌, codes}
use Rattle.ps_objects.specs.Access.{read_right}
use Rattle.ps_objects.specs.declared.access.Access.{Access}
use Rattle.ps_objects.specs.declared.objects.Interval.{Interval}
use Rattle.ps_kinds.specs.declared.state.State.{State}
use Rattle.ps_operator.specs.Looks.{look_byte}
use Rattle.ps_operator.specs.Tree.{read, look_then, found}
use Rattle.full_texts.specs.Growing.{allowed, Growth, whole}

-- a parenthesis or a backslash
abbrev pub is_marked : ℕ → Bool
is_marked b = nat_eq b 40 || nat_eq b 41 || nat_eq b 92

-- a character that prints
abbrev pub is_printing : ℕ → Bool
is_printing b = nat_le 32 b && nat_le b 126

-- a backslash and three octal digits
abbrev pub octal : ℕ → List ℕ
octal b = 92 ∷ (48 + b / 64) ∷ (48 + b / 8 % 8) ∷ (48 + b % 8) ∷ []

-- a byte between the parentheses: behind a backslash where it is marked, in octal where it doesn't print
abbrev pub escaped : ℕ → List ℕ
escaped b = if is_marked b then 92 ∷ b ∷ [] else if is_printing b then b ∷ [] else octal b

-- so many bytes of a string from a place on, each looked at
abbrev pub bytes_shown : State → Interval → ℕ → ℕ → Growth
bytes_shown s part at zero text = found text
bytes_shown s part at (suc n) text =
    look_byte part at (λ b.
    read (allowed s (text ++ escaped b)) (λ t.
    bytes_shown s part (at + 1) n t))

-- a string in parentheses, where it may be read
abbrev pub string_shown : State → Access → Interval → Growth
string_shown s right part text =
    read (read_right right) (λ _.
    read (allowed s (text ++ codes "(")) (λ t.
    look_then (bytes_shown s part 0 part.len t) (λ u.
    whole s (u ++ codes ")"))))
