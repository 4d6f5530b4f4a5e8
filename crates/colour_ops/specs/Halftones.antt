-- Halftone dictionaries of types 1 and 3 (section 6.4.3 of the language manual).
use Rattle.std.specs.Prelude.{ℕ, suc, ◌*◌, ℤ, pos, nat_eq, if◌then◌else◌, List, [], ◌∷◌, codes, Option, Some, None, Result, Ok, Err}
use Rattle.std.specs.Ordering.{int_eq}
use Rattle.ps_shapes.specs.Screen.{Screen, screen}
use Rattle.ps_names.specs.declared.error_name.ErrorName.{ErrorName}
use Rattle.ps_names.specs.declared.error_name.ErrorName.TheVariants.{RangeCheck}
use Rattle.ps_objects.specs.Access.{read_right}
use Rattle.ps_objects.specs.Operands.{needed, room_for, object_at, dict_at}
use Rattle.ps_objects.specs.declared.cell.Cell.{Cell}
use Rattle.ps_objects.specs.declared.key.Key.TheVariants as key
use Rattle.ps_objects.specs.declared.access.Access.{Access}
use Rattle.ps_objects.specs.declared.object.Kind.{Kind}
use Rattle.ps_objects.specs.declared.object.Kind.TheVariants as kind
use Rattle.ps_objects.specs.declared.object.Object.{Object}
use Rattle.ps_objects.specs.declared.objects.Interval.{Interval}
use Rattle.ps_kinds.specs.declared.state.State.{State}
use Rattle.ps_memory.specs.Tree.{Application}
use Rattle.ps_operator.specs.Keys.{bytes_of}
use Rattle.ps_operator.specs.Looks.{look_access, look_entry}
use Rattle.ps_operator.specs.Registers.{ops, leaves}
use Rattle.ps_operator.specs.Tree.{Ask, read, look_then, found}
use Rattle.colour_ops.specs.declared.halftones.Entry.{Entry}
use Rattle.colour_ops.specs.declared.halftones.Entry.TheVariants as entry
use Rattle.colour_ops.specs.declared.halftones.HalftoneType.{HalftoneType}
use Rattle.colour_ops.specs.declared.halftones.HalftoneType.TheVariants as type
use Rattle.colour_ops.specs.Glyphs.{settable}
use Rattle.colour_ops.specs.Setting.{sets}

-- ---- entries: what is missing, or has another type or value, is a rangecheck

-- the name of an entry
unfoldable pub name_of : Entry → List ℕ
name_of entry.HalftoneType = codes "HalftoneType"
name_of entry.Width = codes "Width"
name_of entry.Height = codes "Height"
name_of entry.Thresholds = codes "Thresholds"

-- looks at an entry
abbrev pub look_at : {A : Type 0} → Cell → Entry → (Option Object → Application A) → Application A
look_at d e k = look_entry d (key.Name (name_of e)) k

-- an integer
abbrev pub integer_of : Kind → Result ℤ ErrorName
integer_of (kind.Integer n) = Ok n
integer_of _ = Err RangeCheck

-- the same of what an entry has
abbrev pub integer_in : Option Object → Result ℤ ErrorName
integer_in None = Err RangeCheck
integer_in (Some x) = integer_of x.kind

-- an integer of 1 or more
abbrev pub size_from : ℤ → Result ℕ ErrorName
size_from (pos (suc n)) = Ok (suc n)
size_from _ = Err RangeCheck

-- types 1 and 3
abbrev pub type_from : ℤ → Result HalftoneType ErrorName
type_from n =
    if int_eq n (pos 1) then Ok type.Spot
    else (if int_eq n (pos 3) then Ok type.Threshold else Err RangeCheck)

-- a type
abbrev pub type_under : Cell → Entry → Application HalftoneType
type_under d e =
    look_at d e (λ x.
    read (integer_in x) (λ n.
    read (type_from n) found))

-- a width or a height
abbrev pub size_under : Cell → Entry → Application ℕ
size_under d e =
    look_at d e (λ x.
    read (integer_in x) (λ n.
    read (size_from n) found))

-- as many bytes as are asked for
abbrev pub sized : ℕ → Interval → Result (Unit {0}) ErrorName
sized n part = if nat_eq part.len n then Ok tt else Err RangeCheck

-- a string; one that may not be read is an invalidaccess
abbrev pub string_of : Access → Kind → Result Interval ErrorName
string_of right (kind.Str part) = elim (read_right right) [ Ok _ ↦ Ok part | Err e ↦ Err e ]
string_of right _ = Err RangeCheck

-- the same of what an entry has
abbrev pub string_in : Option Object → Result Interval ErrorName
string_in None = Err RangeCheck
string_in (Some x) = string_of x.access x.kind

-- the string of thresholds
abbrev pub string_under : Cell → Entry → Application Interval
string_under d e = look_at d e (λ x. read (string_in x) found)

-- ---- thresholds

-- those of a dictionary of type 3: the width, the height and a byte for each place
abbrev pub table_in : Cell → Application Screen
table_in d =
    look_then (size_under d entry.Width) (λ width.
    look_then (size_under d entry.Height) (λ height.
    look_then (string_under d entry.Thresholds) (λ string.
    read (sized (width * height) string) (λ _.
    look_then (bytes_of string) (λ bytes.
    found (screen width height bytes))))))

-- by the type: a dictionary of type 1 has none
abbrev pub thresholds_by : Cell → HalftoneType → Application Screen
thresholds_by d type.Spot = found (screen 0 0 [])
thresholds_by d type.Threshold = table_in d

-- those of a halftone dictionary
abbrev pub thresholds_in : Cell → Application Screen
thresholds_in d = look_then (type_under d entry.HalftoneType) (thresholds_by d)

-- ---- operators

-- d sethalftone
abbrev pub sethalftone : State → Ask
sethalftone s =
    read (needed 1 (ops s)) (λ _.
    read (dict_at 0 (ops s)) (λ d.
    read (object_at 0 (ops s)) (λ x.
    read (settable s.frames) (λ _.
    look_access d (λ a.
    read (read_right a) (λ _.
    look_then (thresholds_in d) (λ t.
    sets s 1 (record s.regs.state { halftone = x; thresholds = t }))))))))

-- currenthalftone x: the dictionary that was set, or null
abbrev pub currenthalftone : State → Ask
currenthalftone s =
    read (room_for 1 (ops s)) (λ _.
    leaves s (s.regs.state.halftone ∷ ops s))
