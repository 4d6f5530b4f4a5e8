-- Messages that show operands: full texts, and the whole operand stack (section 8.2 of the language manual).
use Rattle.std.specs.Prelude.{ℕ, ◌+◌, List, [], ◌∷◌, ◌++◌, drop, length, Result, Ok, Err}
use Rattle.ps_names.specs.declared.error_name.ErrorName.{ErrorName}
use Rattle.ps_objects.specs.Operands.{needed, object_at}
use Rattle.ps_objects.specs.declared.object.Object.{Object}
use Rattle.ps_kinds.specs.declared.state.State.{State}
use Rattle.ps_operator.specs.Tree.{Ask, read, look_then, found}
use Rattle.ps_operator.specs.Budgets.{message_room}
use Rattle.ps_operator.specs.Keys.{key_right_of}
use Rattle.ps_operator.specs.Registers.{ops}
use Rattle.full_texts.specs.Growing.{if_room, Growth, whole}
use Rattle.full_texts.specs.Full.{full_text}
use Rattle.text_ops.specs.Plain.{plain_form, plain_length, plain_told}
use Rattle.text_ops.specs.Messages.{says}

-- ---- full texts

-- the full text of an object, and a line end
abbrev pub full_line : State → Object → Growth
full_line s x text = look_then (full_text s x text) (λ t. whole s (t ++ 10 ∷ []))

-- those of objects, one behind the other
abbrev pub full_lines : State → List Object → Growth
full_lines s [] text = found text
full_lines s (x ∷ xs) text = look_then (full_line s x text) (λ t. full_lines s xs t)

-- any ==
abbrev pub two_equals_signs : State → Ask
two_equals_signs s =
    read (needed 1 (ops s)) (λ _.
    read (object_at 0 (ops s)) (λ x.
    look_then (full_line s x []) (λ text.
    says s (drop 1 (ops s)) (length text) text)))

-- pstack: the full texts of the operands, which stay
abbrev pub pstack : State → Ask
pstack s = look_then (full_lines s (ops s) []) (λ text. says s (ops s) (length text) text)

-- ---- plain texts

-- the first refusal of two
abbrev pub first_of : Result (Unit {0}) ErrorName → Result (Unit {0}) ErrorName → Result (Unit {0}) ErrorName
first_of (Err e) r = Err e
first_of (Ok _) r = r

-- each string among objects may be read
abbrev pub all_readable : List Object → Result (Unit {0}) ErrorName
all_readable [] = Ok tt
all_readable (x ∷ xs) = first_of (key_right_of x.access x.kind) (all_readable xs)

-- how long the plain texts of objects are, each with a line end
abbrev pub lines_length : List Object → ℕ
lines_length [] = 0
lines_length (x ∷ xs) = plain_length (plain_form x.kind) + 1 + lines_length xs

-- the same, where the section may say so much
abbrev pub lines_room : State → List Object → Result ℕ ErrorName
lines_room s xs = if_room (message_room s.kind s.said (lines_length xs)) (lines_length xs)

-- these texts, one behind the other
abbrev pub plain_lines : List Object → Growth
plain_lines [] text = found text
plain_lines (x ∷ xs) text =
    look_then (plain_told (plain_form x.kind)) (λ t. plain_lines xs (text ++ t ++ 10 ∷ []))

-- stack: the plain texts of the operands, which stay
abbrev pub stack : State → Ask
stack s =
    read (all_readable (ops s)) (λ _.
    read (lines_room s (ops s)) (λ n.
    look_then (plain_lines (ops s) []) (λ text.
    says s (ops s) n text)))
