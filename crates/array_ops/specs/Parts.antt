-- Parts of arrays and of strings.
use Rattle.std.specs.Prelude.{ℕ, ◌+◌, Bool, List, Result, Ok, Err}
use Rattle.ps_names.specs.declared.error_name.ErrorName.{ErrorName}
use Rattle.ps_names.specs.declared.error_name.ErrorName.TheVariants.{TypeCheck}
use Rattle.ps_objects.specs.Operands.{integer_at, typed}
use Rattle.ps_objects.specs.declared.object.Kind.{Kind}
use Rattle.ps_objects.specs.declared.object.Kind.TheVariants as kind
use Rattle.ps_objects.specs.declared.object.Object.{Object}
use Rattle.ps_objects.specs.declared.objects.Interval.{Interval}
use Rattle.ps_memory.specs.Memory.{Memory}
use Rattle.ps_operator.specs.Numbers.{natural_of}
use Rattle.ps_operator.specs.Standing.{is_array, is_string}
use Rattle.array_ops.specs.declared.parts.Part.{Part}
use Rattle.array_ops.specs.declared.parts.Part.TheVariants as part

-- a number that isn't negative, as an operand
abbrev pub count_at : ℕ → List Object → Result ℕ ErrorName
count_at depth xs = elim (integer_at depth xs) [ Ok i ↦ natural_of i | Err e ↦ Err e ]

-- the items of an array, or the bytes of a string
abbrev pub part_of : Kind → Result Part ErrorName
part_of (kind.Array a packed) = Ok (part.Items a)
part_of (kind.Str a) = Ok (part.Bytes a)
part_of _ = Err TypeCheck

-- the same of an operand
abbrev pub part_at : ℕ → List Object → Result Part ErrorName
part_at = typed part_of

-- the interval of a part
abbrev pub interval_of : Part → Interval
interval_of (part.Items a) = a
interval_of (part.Bytes a) = a

-- a part stands
abbrev pub is_part : Memory → Part → Bool
is_part M (part.Items a) = is_array M a
is_part M (part.Bytes a) = is_string M a

-- n places of an interval from one on
abbrev pub piece : Interval → ℕ → ℕ → Interval
piece a at n = record { cell = a.cell; start = a.start + at; len = n }

-- an array or a string with another interval
abbrev pub over : Interval → Kind → Kind
over a (kind.Array b packed) = kind.Array a packed
over a (kind.Str b) = kind.Str a
over a k = k

-- the same as an object, with its attribute and its access
abbrev pub over_of : Interval → Object → Object
over_of a x = record x { kind = over a x.kind }
