-- New strings, and searches in strings (section 8.2 of the language manual).
use Rattle.std.specs.Prelude.{ℕ, zero, suc, ◌+◌, ◌/◌, Bool, true, false, nat_eq, if◌then◌else◌, List, [], ◌∷◌, length, drop, Option, Some, None}
use Rattle.std.specs.List.{starts_with}
use Rattle.memchr.specs.Find.{occurs_at}
use Rattle.ps_objects.specs.Object.{whole_of}
use Rattle.ps_objects.specs.Operands.{needed, room_for, object_at, integer_at, string_at, readable_at}
use Rattle.ps_objects.specs.declared.object.Kind.TheVariants as kind
use Rattle.ps_objects.specs.declared.object.Object.{Object}
use Rattle.ps_objects.specs.declared.objects.Interval.{Interval}
use Rattle.ps_objects.specs.declared.place.Shape.TheVariants as shape
use Rattle.ps_kinds.specs.declared.state.State.{State}
use Rattle.ps_memory.specs.Tree.{makes, done}
use Rattle.ps_operator.specs.Tree.{Ask, read, look_then}
use Rattle.ps_operator.specs.Budgets.{unit_room}
use Rattle.ps_operator.specs.Keys.{bytes_of}
use Rattle.ps_operator.specs.Making.{next_cell}
use Rattle.ps_operator.specs.Numbers.{natural_of, length_of}
use Rattle.ps_operator.specs.Registers.{ops, literal, with_ops, spent, quiet, leaves}
use Rattle.text_ops.specs.Parts.{parted, headed}

-- eight bytes of a string are a unit; one that is begun counts whole
abbrev pub string_units : ℕ → ℕ
string_units n = (n + 7) / 8

-- int string string: of bytes 0
abbrev pub string : State → Ask
string s =
    read (needed 1 (ops s)) (λ _.
    read (integer_at 0 (ops s)) (λ i.
    read (natural_of i) (λ m.
    read (length_of m) (λ n.
    read (unit_room s.kind s.units (string_units n)) (λ _.
    done (makes (next_cell s) (shape.Str n) ∷ [])
    (quiet (spent (with_ops s (literal (kind.Str (whole_of (next_cell s) n)) ∷ drop 1 (ops s)))
    (string_units n))))))))

-- ---- searches

-- the first of n places from one on at which the bytes stand
unfoldable pub first_from : List ℕ → List ℕ → ℕ → ℕ → Option ℕ
first_from text sought at zero = None
first_from text sought at (suc n) =
    if occurs_at text sought at then Some at else first_from text sought (at + 1) n

-- the first place of a text at which the bytes stand
abbrev pub first_place : List ℕ → List ℕ → Option ℕ
first_place text sought = first_from text sought 0 (length text + 1)

-- the string stays, under false
abbrev pub unmatched : State → Ask
unmatched s = leaves s (literal (kind.Boolean false) ∷ drop 1 (ops s))

-- the string in its three parts, where a match of m bytes was found
abbrev pub search_ends : State → Object → Interval → ℕ → Option ℕ → Ask
search_ends s x a m None = unmatched s
search_ends s x a m (Some at) =
    read (room_for 2 (ops s)) (λ _. leaves s (parted x.exec x.access a at m (drop 2 (ops s))))

-- string seek search post match pre true, or string false
abbrev pub search : State → Ask
search s =
    read (needed 2 (ops s)) (λ _.
    read (string_at 0 (ops s)) (λ seek.
    read (string_at 1 (ops s)) (λ a.
    read (readable_at 0 (ops s)) (λ _.
    read (readable_at 1 (ops s)) (λ _.
    read (object_at 1 (ops s)) (λ x.
    look_then (bytes_of seek) (λ sought.
    look_then (bytes_of a) (λ text.
    search_ends s x a seek.len (first_place text sought)))))))))

-- the string in two parts, where it begins with the bytes
abbrev pub anchorsearch_ends : State → Object → Interval → ℕ → Bool → Ask
anchorsearch_ends s x a m false = unmatched s
anchorsearch_ends s x a m true =
    read (room_for 1 (ops s)) (λ _. leaves s (headed x.exec x.access a m (drop 2 (ops s))))

-- string seek anchorsearch post match true, or string false
abbrev pub anchorsearch : State → Ask
anchorsearch s =
    read (needed 2 (ops s)) (λ _.
    read (string_at 0 (ops s)) (λ seek.
    read (string_at 1 (ops s)) (λ a.
    read (readable_at 0 (ops s)) (λ _.
    read (readable_at 1 (ops s)) (λ _.
    read (object_at 1 (ops s)) (λ x.
    look_then (bytes_of seek) (λ sought.
    look_then (bytes_of a) (λ text.
    anchorsearch_ends s x a seek.len (starts_with nat_eq text sought)))))))))
