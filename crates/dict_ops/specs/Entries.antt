-- Dictionaries and their entries (section 8.2 of the language manual).
use Rattle.std.specs.Prelude.{ℕ, ℤ, pos, Bool, true, false, nat_lt, if◌then◌else◌, List, [], ◌∷◌}
use Rattle.std.specs.Prelude.{drop, length, Option, Some, None, Result, Ok, Err}
use Rattle.ps_names.specs.declared.error_name.ErrorName.{ErrorName}
use Rattle.ps_names.specs.declared.error_name.ErrorName.TheVariants.{LimitCheck, Undefined}
use Rattle.ps_objects.specs.declared.cell.Cell.{Cell}
use Rattle.ps_objects.specs.declared.key.Key.{Key}
use Rattle.ps_objects.specs.declared.object.Object.{Object}
use Rattle.ps_objects.specs.declared.object.Kind.TheVariants as kind
use Rattle.ps_objects.specs.declared.place.Loc.TheVariants as loc
use Rattle.ps_objects.specs.declared.place.Value.TheVariants as value
use Rattle.ps_objects.specs.declared.place.Shape.{Shape}
use Rattle.ps_objects.specs.declared.place.Shape.TheVariants as shape
use Rattle.ps_objects.specs.Access.{read_right, write_right}
use Rattle.ps_objects.specs.Key.{key_form_at}
use Rattle.ps_objects.specs.Operands.{needed, object_at, integer_at, dict_at}
use Rattle.ps_kinds.specs.declared.state.State.{State}
use Rattle.ps_memory.specs.Tree.{done, ask, puts, makes, removes}
use Rattle.ps_operator.specs.Tree.{Ask, read, look_then}
use Rattle.ps_operator.specs.Budgets.{unit_room, storable_entry}
use Rattle.ps_operator.specs.Keys.{key_right_at, key_length, key_of, form_cell}
use Rattle.ps_operator.specs.Looks.{look_access, look_entry, look_keys}
use Rattle.ps_operator.specs.Making.{next_cell}
use Rattle.ps_operator.specs.Numbers.{natural_of, length_of}
use Rattle.ps_operator.specs.Registers.{ops, literal, with_ops, spent, quiet, leaves}

-- i dict d: a new dictionary with a capacity
abbrev pub dict : State → Ask
dict s =
    read (needed 1 (ops s)) (λ _.
    read (integer_at 0 (ops s)) (λ i.
    read (natural_of i) (λ n.
    read (length_of n) (λ capacity.
    done (makes (next_cell s) (shape.Dict capacity) ∷ [])
    (quiet (with_ops s (literal (kind.Dict (next_cell s)) ∷ drop 1 (ops s))))))))

-- ---- how many entries there are

-- a number that is told has 31 bits
abbrev pub number_told : ℕ → Result ℤ ErrorName
number_told n = if nat_lt 2147483647 n then Err LimitCheck else Ok (pos n)

-- d length i: the number of entries
abbrev pub dict_length : State → Ask
dict_length s =
    read (needed 1 (ops s)) (λ _.
    read (dict_at 0 (ops s)) (λ d.
    look_access d (λ a.
    read (read_right a) (λ _.
    look_keys d (λ ks.
    read (number_told (length ks)) (λ n.
    leaves s (literal (kind.Integer n) ∷ drop 1 (ops s))))))))

-- with how many entries a dictionary was made for
abbrev pub capacity_of : Shape → ℕ
capacity_of (shape.Dict capacity) = capacity
capacity_of _ = 0

-- the greater of two numbers
abbrev pub greater_of : ℕ → ℕ → ℕ
greater_of m n = if nat_lt m n then n else m

-- d maxlength i: the greater of the number of entries and the capacity
abbrev pub maxlength : State → Ask
maxlength s =
    read (needed 1 (ops s)) (λ _.
    read (dict_at 0 (ops s)) (λ d.
    look_access d (λ a.
    read (read_right a) (λ _.
    look_keys d (λ ks.
    ask d (λ sh.
    read (number_told (greater_of (length ks) (capacity_of sh))) (λ n.
    leaves s (literal (kind.Integer n) ∷ drop 1 (ops s)))))))))

-- ---- one entry

-- whether an entry is there
abbrev pub is_present : Option Object → Bool
is_present (Some x) = true
is_present None = false

-- d k known b: whether a dictionary has a key
abbrev pub known : State → Ask
known s =
    read (needed 2 (ops s)) (λ _.
    read (key_form_at 0 (ops s)) (λ form.
    read (dict_at 1 (ops s)) (λ d.
    look_access d (λ a.
    read (read_right a) (λ _.
    read (key_right_at 0 (ops s)) (λ _.
    read (key_length form) (λ _.
    look_then (key_of form) (λ key.
    look_entry d key (λ x.
    leaves s (literal (kind.Boolean (is_present x)) ∷ drop 2 (ops s)))))))))))

-- the value of an entry, which has to be there
abbrev pub value_in : Option Object → Result Object ErrorName
value_in (Some x) = Ok x
value_in None = Err Undefined

-- d k get x: the value under a key
abbrev pub dict_get : State → Ask
dict_get s =
    read (needed 2 (ops s)) (λ _.
    read (key_form_at 0 (ops s)) (λ form.
    read (dict_at 1 (ops s)) (λ d.
    look_access d (λ a.
    read (read_right a) (λ _.
    read (key_right_at 0 (ops s)) (λ _.
    read (key_length form) (λ _.
    look_then (key_of form) (λ key.
    look_entry d key (λ found.
    read (value_in found) (λ x.
    leaves s (x ∷ drop 2 (ops s))))))))))))

-- d k x put: the newest operand under a key, without a look at the old value
abbrev pub dict_put : State → Ask
dict_put s =
    read (needed 3 (ops s)) (λ _.
    read (object_at 0 (ops s)) (λ x.
    read (key_form_at 1 (ops s)) (λ form.
    read (dict_at 2 (ops s)) (λ d.
    look_access d (λ a.
    read (write_right a) (λ _.
    read (key_right_at 1 (ops s)) (λ _.
    read (storable_entry d (form_cell form) x.kind) (λ _.
    read (key_length form) (λ _.
    read (unit_room s.kind s.units 1) (λ _.
    look_then (key_of form) (λ key.
    done (puts (loc.Entry d key) (value.Object x) ∷ [])
    (quiet (spent (with_ops s (drop 3 (ops s))) 1)))))))))))))

-- whether programs may change the entries of a dictionary at all
abbrev pub is_open : Cell → Result (Unit {0}) ErrorName
is_open d = storable_entry d None kind.Null

-- d k undef: the entry of a key goes, if there is one, without a look at it
abbrev pub undef : State → Ask
undef s =
    read (needed 2 (ops s)) (λ _.
    read (key_form_at 0 (ops s)) (λ form.
    read (dict_at 1 (ops s)) (λ d.
    look_access d (λ a.
    read (write_right a) (λ _.
    read (is_open d) (λ _.
    read (key_right_at 0 (ops s)) (λ _.
    read (key_length form) (λ _.
    look_then (key_of form) (λ key.
    done (removes d key ∷ []) (quiet (with_ops s (drop 2 (ops s)))))))))))))
