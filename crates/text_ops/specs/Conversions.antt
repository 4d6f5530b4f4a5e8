-- Conversions of texts, numbers and names (section 8.2 of the language manual).
use Rattle.std.specs.Prelude.{ℕ, nat_lt, if◌then◌else◌, ◌∷◌, drop, length, Result, Ok, Err}
use Rattle.ps_names.specs.declared.error_name.ErrorName.{ErrorName}
use Rattle.ps_names.specs.declared.error_name.ErrorName.TheVariants.{LimitCheck, TypeCheck}
use Rattle.ps_names.specs.declared.op.TheConstants.{NAME_LIMIT}
use Rattle.ps_objects.specs.Access.{read_right}
use Rattle.ps_objects.specs.Operands.{needed, object_at, integer_at, number_at, string_at, readable_at, writable_at}
use Rattle.ps_objects.specs.declared.access.Access.{Access}
use Rattle.ps_objects.specs.declared.access.Access.TheVariants.{Unlimited}
use Rattle.ps_objects.specs.declared.object.Kind.{Kind}
use Rattle.ps_objects.specs.declared.object.Kind.TheVariants as kind
use Rattle.ps_objects.specs.declared.objects.Number.{Number}
use Rattle.ps_objects.specs.declared.objects.Number.TheVariants as number
use Rattle.ps_kinds.specs.declared.state.State.{State}
use Rattle.ps_memory.specs.Tree.{Application, fail}
use Rattle.ps_operator.specs.Tree.{Ask, read, look_then, found}
use Rattle.ps_operator.specs.Keys.{bytes_of, key_right_at}
use Rattle.ps_operator.specs.Registers.{ops, literal, leaves}
use Rattle.text_ops.specs.Numbers.{number_in, integer_from, real_from, base_of, number_text}
use Rattle.text_ops.specs.Parts.{fits_in, fills}
use Rattle.text_ops.specs.Plain.{plain_form, plain_length, plain_told}

-- any string cvs substring: the plain text
abbrev pub cvs : State → Ask
cvs s =
    read (needed 2 (ops s)) (λ _.
    read (string_at 0 (ops s)) (λ a.
    read (object_at 0 (ops s)) (λ t.
    read (object_at 1 (ops s)) (λ x.
    read (writable_at 0 (ops s)) (λ _.
    read (key_right_at 1 (ops s)) (λ _.
    read (fits_in a.len (plain_length (plain_form x.kind))) (λ _.
    look_then (plain_told (plain_form x.kind)) (λ text.
    fills s t a text (drop 2 (ops s))))))))))

-- number base string cvrs substring
abbrev pub cvrs : State → Ask
cvrs s =
    read (needed 3 (ops s)) (λ _.
    read (string_at 0 (ops s)) (λ a.
    read (integer_at 1 (ops s)) (λ i.
    read (number_at 2 (ops s)) (λ n.
    read (object_at 0 (ops s)) (λ t.
    read (writable_at 0 (ops s)) (λ _.
    read (base_of i) (λ base.
    read (number_text base n) (λ text.
    read (fits_in a.len (length text)) (λ _.
    fills s t a text (drop 3 (ops s)))))))))))

-- at most 127 bytes of a name
abbrev pub name_room : ℕ → Result (Unit {0}) ErrorName
name_room n = if nat_lt NAME_LIMIT n then Err LimitCheck else Ok tt

-- string cvn name: with the string's attribute
abbrev pub cvn : State → Ask
cvn s =
    read (needed 1 (ops s)) (λ _.
    read (string_at 0 (ops s)) (λ a.
    read (object_at 0 (ops s)) (λ x.
    read (readable_at 0 (ops s)) (λ _.
    read (name_room a.len) (λ _.
    look_then (bytes_of a) (λ bs.
    leaves s (record { kind = kind.Name bs; exec = x.exec; access = Unlimited } ∷ drop 1 (ops s))))))))

-- a number, or the one that a string spells, which is looked at whole
abbrev pub number_told : Access → Kind → Application Number
number_told a (kind.Integer n) = found (number.Integer n)
number_told a (kind.Real r) = found (number.Real r)
number_told a (kind.Str part) =
    read (read_right a) (λ _. look_then (bytes_of part) (λ text. read (number_in text) (λ n. found n)))
number_told a _ = fail TypeCheck

-- number cvi integer, string cvi integer
abbrev pub cvi : State → Ask
cvi s =
    read (needed 1 (ops s)) (λ _.
    read (object_at 0 (ops s)) (λ x.
    look_then (number_told x.access x.kind) (λ n.
    read (integer_from n) (λ i.
    leaves s (literal (kind.Integer i) ∷ drop 1 (ops s))))))

-- number cvr real, string cvr real
abbrev pub cvr : State → Ask
cvr s =
    read (needed 1 (ops s)) (λ _.
    read (object_at 0 (ops s)) (λ x.
    look_then (number_told x.access x.kind) (λ n.
    leaves s (literal (kind.Real (real_from n)) ∷ drop 1 (ops s)))))
