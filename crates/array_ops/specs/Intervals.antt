-- Parts that are cut out, and items and bytes that move from one part to another (section 8.2 of the language manual).
use Rattle.std.specs.Prelude.{ℕ, zero, suc, ◌+◌, ◌-◌, ℤ, pos, Bool, true, false, nat_lt, cond, if◌then◌else◌, List, [], ◌∷◌, ◌++◌, drop, take, Result, Ok, Err}
use Rattle.ps_names.specs.declared.error_name.ErrorName.{ErrorName}
use Rattle.ps_names.specs.declared.error_name.ErrorName.TheVariants.{TypeCheck}
use Rattle.ps_objects.specs.Operands.{needed, room_for, object_at, integer_at, readable_at, writable_at}
use Rattle.ps_objects.specs.declared.cell.Cell.{Cell}
use Rattle.ps_objects.specs.declared.object.Object.{Object}
use Rattle.ps_objects.specs.declared.objects.Interval.{Interval}
use Rattle.ps_kinds.specs.declared.state.State.{State}
use Rattle.ps_memory.specs.Memory.{is_global}
use Rattle.ps_memory.specs.Tree.{Application, done}
use Rattle.ps_operator.specs.Tree.{Ask, read, look_then, found}
use Rattle.ps_operator.specs.Budgets.{storable}
use Rattle.ps_operator.specs.Keys.{bytes_of}
use Rattle.ps_operator.specs.Looks.{look_item}
use Rattle.ps_operator.specs.Numbers.{natural_of}
use Rattle.ps_operator.specs.Registers.{ops, with_ops, quiet, leaves}
use Rattle.ps_operator.specs.Storing.{space_in, byte_stores, item_stores}
use Rattle.array_ops.specs.Parts.{count_at, part_at, interval_of, piece, over_of}
use Rattle.array_ops.specs.declared.parts.Part.{Part}
use Rattle.array_ops.specs.declared.parts.Part.TheVariants as part
use Rattle.array_ops.specs.declared.intervals.Move.{Move}
use Rattle.array_ops.specs.declared.intervals.Move.TheVariants as move

-- a i n getinterval b, s i n getinterval t: n items or bytes from a place on, which share the cell
abbrev pub getinterval : State → Ask
getinterval s =
    read (needed 3 (ops s)) (λ _.
    read (integer_at 0 (ops s)) (λ j.
    read (integer_at 1 (ops s)) (λ i.
    read (part_at 2 (ops s)) (λ p.
    read (object_at 2 (ops s)) (λ x.
    read (readable_at 2 (ops s)) (λ _.
    read (natural_of j) (λ n.
    read (space_in (interval_of p).len n i) (λ at.
    leaves s (over_of (piece (interval_of p) at n) x ∷ drop 3 (ops s))))))))))

-- ---- items and bytes that move

-- from one array to another, or from one string to another
abbrev pub move_of : Part → Part → Result Move ErrorName
move_of (part.Items target) (part.Items source) = Ok (move.Items target source)
move_of (part.Bytes target) (part.Bytes source) = Ok (move.Bytes target source)
move_of _ _ = Err TypeCheck

-- looks at so many items in their order, after those that were seen, up to one that may not lie in a cell
abbrev pub storable_from : Cell → Interval → ℕ → ℕ → List Object → Application (List Object)
storable_from c a at zero seen = found seen
storable_from c a at (suc n) seen =
    look_item a at (λ x.
    read (storable c x.kind) (λ _.
    storable_from c a (at + 1) n (seen ++ x ∷ [])))

-- looks at an array whole, up to an item that may not lie in a cell
abbrev pub storable_items : Cell → Interval → Application (List Object)
storable_items c a = storable_from c a 0 a.len []

-- the room for the items is asked for early, where no item need be looked at to know what else is refused
abbrev pub early_room : Interval → Result ℕ ErrorName → Result (Unit {0}) ErrorName
early_room target room =
    if is_global target.cell then Ok tt else elim room [ Ok at ↦ Ok tt | Err e ↦ Err e ]

-- all items are looked at before the first is stored; these operands are left
abbrev pub items_move : State → Interval → Interval → Result ℕ ErrorName → List Object → Ask
items_move s target source room xs =
    read (early_room target room) (λ _.
    look_then (storable_items target.cell source) (λ items.
    read room (λ at.
    done (item_stores target at items) (quiet (with_ops s xs)))))

-- the same of bytes
abbrev pub bytes_move : State → Interval → Interval → Result ℕ ErrorName → List Object → Ask
bytes_move s target source room xs =
    read room (λ at.
    look_then (bytes_of source) (λ bytes.
    done (byte_stores target at bytes) (quiet (with_ops s xs))))

-- ---- putinterval

-- a place from which on the source fits in the target
abbrev pub room_of : Interval → Interval → Result ℤ ErrorName → Result ℕ ErrorName
room_of target source (Ok i) = space_in target.len source.len i
room_of target source (Err e) = Err e

-- the same as an operand
abbrev pub room_at : ℕ → Interval → Interval → List Object → Result ℕ ErrorName
room_at depth target source xs = room_of target source (integer_at depth xs)

-- to that place of the target, which goes with the other operands
abbrev pub put_move : State → Move → Ask
put_move s (move.Items target source) =
    items_move s target source (room_at 1 target source (ops s)) (drop 3 (ops s))
put_move s (move.Bytes target source) =
    bytes_move s target source (room_at 1 target source (ops s)) (drop 3 (ops s))

-- a i b putinterval, s i t putinterval: all of b in a, from a place on
abbrev pub putinterval : State → Ask
putinterval s =
    read (needed 3 (ops s)) (λ _.
    read (part_at 0 (ops s)) (λ source.
    read (integer_at 1 (ops s)) (λ _.
    read (part_at 2 (ops s)) (λ target.
    read (move_of target source) (λ m.
    read (readable_at 0 (ops s)) (λ _.
    read (writable_at 2 (ops s)) (λ _.
    put_move s m)))))))

-- ---- copy

-- the front of the target that was filled, and the other operands
abbrev pub front_left : State → Interval → Interval → Object → List Object
front_left s target source x = over_of (piece target 0 source.len) x ∷ drop 2 (ops s)

-- the source fits at the front of the target
abbrev pub front_room : Interval → Interval → Result ℕ ErrorName
front_room target source = space_in target.len source.len (pos 0)

-- to the front of the target, which is left
abbrev pub copy_move : State → Object → Move → Ask
copy_move s x (move.Items target source) =
    items_move s target source (front_room target source) (front_left s target source x)
copy_move s x (move.Bytes target source) =
    bytes_move s target source (front_room target source) (front_left s target source x)

-- the newest operand is the target
abbrev pub copy_to : State → Move → Ask
copy_to s m = read (object_at 0 (ops s)) (λ x. copy_move s x m)

-- a b copy c, s t copy u: all of a in the front of b, which is left
abbrev pub copy_part : State → Ask
copy_part s =
    read (needed 2 (ops s)) (λ _.
    read (part_at 0 (ops s)) (λ target.
    read (part_at 1 (ops s)) (λ source.
    read (move_of target source) (λ m.
    read (writable_at 0 (ops s)) (λ _.
    read (readable_at 1 (ops s)) (λ _.
    copy_to s m))))))

-- n more operands stay within the limit; none more always do
abbrev pub more_room : ℕ → List Object → Result (Unit {0}) ErrorName
more_room n xs = if nat_lt 0 n then room_for n xs else Ok tt

-- x .. n copy x .. x ..: the newest n operands once more
abbrev pub copy_operands : State → Ask
copy_operands s =
    read (count_at 0 (ops s)) (λ n.
    read (needed (n + 1) (ops s)) (λ _.
    read (more_room (n - 1) (ops s)) (λ _.
    leaves s (take n (drop 1 (ops s)) ++ drop 1 (ops s)))))

-- the operand is an integer
abbrev pub is_integer_at : ℕ → List Object → Bool
is_integer_at depth xs = elim (integer_at depth xs) [ Ok i ↦ true | Err e ↦ false ]

-- x .. n copy, a b copy, s t copy: operands where the newest is an integer
abbrev pub copy : State → Ask
copy s =
    read (needed 1 (ops s)) (λ _.
    cond (is_integer_at 0 (ops s)) (copy_operands s) (copy_part s))
