-- Single items and bytes, and how many there are (section 8.2 of the language manual).
use Rattle.std.specs.Prelude.{ℕ, ℤ, pos, negsuc, nat_lt, if◌then◌else◌, List, [], ◌∷◌, drop, length, Result, Ok, Err}
use Rattle.ps_names.specs.declared.error_name.ErrorName.{ErrorName}
use Rattle.ps_names.specs.declared.error_name.ErrorName.TheVariants.{LimitCheck, RangeCheck, TypeCheck}
use Rattle.ps_objects.specs.Access.{read_right}
use Rattle.ps_objects.specs.Operands.{needed, object_at, integer_at, readable_at, writable_at, operand, typed}
use Rattle.ps_objects.specs.declared.access.Access.{Access}
use Rattle.ps_objects.specs.declared.object.Kind.{Kind}
use Rattle.ps_objects.specs.declared.object.Kind.TheVariants as kind
use Rattle.ps_objects.specs.declared.object.Object.{Object}
use Rattle.ps_objects.specs.declared.objects.Interval.{Interval}
use Rattle.ps_objects.specs.declared.place.Value.TheVariants as value
use Rattle.ps_kinds.specs.declared.state.State.{State}
use Rattle.ps_memory.specs.Tree.{done, puts}
use Rattle.ps_operator.specs.Tree.{Ask, read}
use Rattle.ps_operator.specs.Budgets.{storable}
use Rattle.ps_operator.specs.Looks.{item_place, byte_place, look_item, look_byte}
use Rattle.ps_operator.specs.Numbers.{place_in}
use Rattle.ps_operator.specs.Registers.{ops, literal, with_ops, quiet, leaves}
use Rattle.array_ops.specs.Parts.{part_at}
use Rattle.array_ops.specs.declared.parts.Part.{Part}
use Rattle.array_ops.specs.declared.parts.Part.TheVariants as part

-- ---- length

-- how many items, or bytes of a string or of a name, there are
abbrev pub size_of : Kind → Result ℕ ErrorName
size_of (kind.Array a packed) = Ok a.len
size_of (kind.Str a) = Ok a.len
size_of (kind.Name n) = Ok (length n)
size_of _ = Err TypeCheck

-- an array or a string is read; of a name the access isn't asked
abbrev pub size_right : Access → Kind → Result (Unit {0}) ErrorName
size_right a (kind.Array part packed) = read_right a
size_right a (kind.Str part) = read_right a
size_right a _ = Ok tt

-- the same of an operand
abbrev pub size_right_at : ℕ → List Object → Result (Unit {0}) ErrorName
size_right_at = operand (λ x. size_right x.access x.kind)

-- a number that is told has 31 bits
abbrev pub number_told : ℕ → Result ℤ ErrorName
number_told n = if nat_lt 2147483647 n then Err LimitCheck else Ok (pos n)

-- x length i: of an array, a string or a name
abbrev pub size : State → Ask
size s =
    read (needed 1 (ops s)) (λ _.
    read (typed size_of 0 (ops s)) (λ n.
    read (size_right_at 0 (ops s)) (λ _.
    read (number_told n) (λ i.
    leaves s (literal (kind.Integer i) ∷ drop 1 (ops s))))))

-- ---- get

-- the item at a place of an array
abbrev pub item_told : State → Interval → Ask
item_told s a =
    read (integer_at 0 (ops s)) (λ i.
    read (readable_at 1 (ops s)) (λ _.
    read (place_in a.len i) (λ at.
    look_item a at (λ x.
    leaves s (x ∷ drop 2 (ops s))))))

-- the byte at a place of a string, as an integer
abbrev pub byte_told : State → Interval → Ask
byte_told s a =
    read (integer_at 0 (ops s)) (λ i.
    read (readable_at 1 (ops s)) (λ _.
    read (place_in a.len i) (λ at.
    look_byte a at (λ b.
    leaves s (literal (kind.Integer (pos b)) ∷ drop 2 (ops s))))))

-- at a place of either
abbrev pub member_told : State → Part → Ask
member_told s (part.Items a) = item_told s a
member_told s (part.Bytes a) = byte_told s a

-- a i get x, s i get b: the item or the byte at a place
abbrev pub get : State → Ask
get s =
    read (needed 2 (ops s)) (λ _.
    read (part_at 1 (ops s)) (λ p.
    member_told s p))

-- ---- put

-- a number that is a byte
abbrev pub byte_of : ℤ → Result ℕ ErrorName
byte_of (pos n) = if nat_lt n 256 then Ok n else Err RangeCheck
byte_of (negsuc n) = Err RangeCheck

-- the newest operand goes to a place of an array
abbrev pub item_put : State → Interval → Ask
item_put s a =
    read (object_at 0 (ops s)) (λ x.
    read (integer_at 1 (ops s)) (λ i.
    read (writable_at 2 (ops s)) (λ _.
    read (storable a.cell x.kind) (λ _.
    read (place_in a.len i) (λ at.
    done (puts (item_place a at) (value.Object x) ∷ []) (quiet (with_ops s (drop 3 (ops s)))))))))

-- the newest operand goes to a place of a string
abbrev pub byte_put : State → Interval → Ask
byte_put s a =
    read (integer_at 0 (ops s)) (λ n.
    read (integer_at 1 (ops s)) (λ i.
    read (writable_at 2 (ops s)) (λ _.
    read (place_in a.len i) (λ at.
    read (byte_of n) (λ b.
    done (puts (byte_place a at) (value.Byte b) ∷ []) (quiet (with_ops s (drop 3 (ops s)))))))))

-- to a place of either
abbrev pub member_put : State → Part → Ask
member_put s (part.Items a) = item_put s a
member_put s (part.Bytes a) = byte_put s a

-- a i x put, s i b put: an item or a byte at a place, without a look at the old one
abbrev pub put : State → Ask
put s =
    read (needed 3 (ops s)) (λ _.
    read (part_at 2 (ops s)) (λ p.
    member_put s p))
