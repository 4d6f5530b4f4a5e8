-- New arrays, and the packing mode (section 8.2 of the language manual).
use Rattle.std.specs.Prelude.{ℕ, ◌+◌, Bool, true, false, ◌&&◌, cond, if◌then◌else◌, List, [], ◌∷◌, drop, reverse, take, Result, Ok, Err}
use Rattle.ps_names.specs.declared.error_name.ErrorName.{ErrorName}
use Rattle.ps_names.specs.declared.error_name.ErrorName.TheVariants.{InvalidAccess}
use Rattle.ps_objects.specs.Object.{cell_named, whole_of}
use Rattle.ps_objects.specs.Operands.{needed, room_for, integer_at, boolean_at}
use Rattle.ps_objects.specs.declared.access.Access.TheVariants.{Unlimited, ReadOnly}
use Rattle.ps_objects.specs.declared.cell.Cell.{Cell}
use Rattle.ps_objects.specs.declared.object.Kind.TheVariants as kind
use Rattle.ps_objects.specs.declared.object.Object.{Object}
use Rattle.ps_objects.specs.declared.objects.Interval.{Interval}
use Rattle.ps_objects.specs.declared.place.Shape.TheVariants as shape
use Rattle.ps_kinds.specs.declared.state.State.{State}
use Rattle.ps_memory.specs.Memory.{is_global}
use Rattle.ps_memory.specs.Tree.{done, makes}
use Rattle.ps_operator.specs.Tree.{Ask, read}
use Rattle.ps_operator.specs.Budgets.{unit_room, is_local}
use Rattle.ps_operator.specs.Making.{next_cell}
use Rattle.ps_operator.specs.Marks.{above_mark}
use Rattle.ps_operator.specs.Numbers.{natural_of, length_of}
use Rattle.ps_operator.specs.Registers.{ops, literal, with_ops, spent, quiet, leaves, any_of}
use Rattle.ps_operator.specs.Storing.{item_stores}
use Rattle.array_ops.specs.Parts.{count_at}

-- a literal array; a packed one is only read
abbrev pub array_object : Bool → Interval → Object
array_object packed a =
    record { kind = kind.Array a packed; exec = false; access = cond packed ReadOnly Unlimited }

-- i array a: so many nulls
abbrev pub array : State → Ask
array s =
    read (needed 1 (ops s)) (λ _.
    read (integer_at 0 (ops s)) (λ i.
    read (natural_of i) (λ m.
    read (length_of m) (λ n.
    read (unit_room s.kind s.units n) (λ _.
    done (makes (next_cell s) (shape.Array n) ∷ [])
    (quiet (spent (with_ops s (array_object false (whole_of (next_cell s) n) ∷ drop 1 (ops s))) n)))))))

-- ---- arrays of operands

-- n of these objects, below the newest few, the lowest first
abbrev pub taken : ℕ → ℕ → List Object → List Object
taken below n xs = reverse (take n (drop below xs))

-- an object names a local cell
abbrev pub names_local : Object → Bool
names_local x = is_local (cell_named x.kind)

-- no local object of these goes into a global cell
abbrev pub all_storable : Cell → List Object → Result (Unit {0}) ErrorName
all_storable c xs = if is_global c && any_of names_local xs then Err InvalidAccess else Ok tt

-- A new array of n operands, which lie below the newest few. It goes in their place and in that of one operand more: the mark below
-- them, or the number above them.
abbrev pub gathers : State → ℕ → ℕ → Bool → Ask
gathers s below n packed =
    read (all_storable (next_cell s) (take n (drop below (ops s)))) (λ _.
    read (unit_room s.kind s.units n) (λ _.
    done (makes (next_cell s) (shape.Array n)
    ∷ item_stores (whole_of (next_cell s) n) 0 (taken below n (ops s)))
    (quiet (spent (with_ops s
    (array_object packed (whole_of (next_cell s) n) ∷ drop (n + 1) (ops s))) n))))

-- mark x .. ] a: the objects above the newest mark
abbrev pub right_bracket : State → Ask
right_bracket s = read (above_mark (ops s)) (λ n. gathers s 0 n false)

-- x .. n packedarray a: so many objects
abbrev pub packedarray : State → Ask
packedarray s =
    read (needed 1 (ops s)) (λ _.
    read (count_at 0 (ops s)) (λ n.
    read (needed (n + 1) (ops s)) (λ _.
    gathers s 1 n true)))

-- ---- the packing mode

-- with this packing mode
abbrev pub with_packing : State → List Object → Bool → State
with_packing s xs b = record s { regs = record s.regs { operands = xs; packing = b } }

-- b setpacking: whether procedures are scanned as packed arrays
abbrev pub setpacking : State → Ask
setpacking s =
    read (needed 1 (ops s)) (λ _.
    read (boolean_at 0 (ops s)) (λ b.
    done [] (quiet (with_packing s (drop 1 (ops s)) b))))

-- currentpacking b
abbrev pub currentpacking : State → Ask
currentpacking s =
    read (room_for 1 (ops s)) (λ _.
    leaves s (literal (kind.Boolean s.regs.packing) ∷ ops s))
