-- The device colour spaces (section 4.8.2 of the language manual).
use Rattle.std.specs.Prelude.{ℕ, false, nat_eq, if◌then◌else◌, List, [], ◌∷◌, codes, Result, Ok, Err}
use Rattle.std.specs.Cmp.Lexicographic.{pointwise}
use Rattle.ps_names.specs.declared.error_name.ErrorName.{ErrorName}
use Rattle.ps_names.specs.declared.error_name.ErrorName.TheVariants.{RangeCheck, TypeCheck}
use Rattle.ps_objects.specs.Access.{read_right}
use Rattle.ps_objects.specs.Object.{whole_of}
use Rattle.ps_objects.specs.Operands.{needed, room_for, object_at}
use Rattle.ps_objects.specs.declared.access.Access.{Access}
use Rattle.ps_objects.specs.declared.object.Kind.{Kind}
use Rattle.ps_objects.specs.declared.object.Kind.TheVariants as kind
use Rattle.ps_objects.specs.declared.objects.Interval.{Interval}
use Rattle.ps_objects.specs.declared.place.Shape.TheVariants as shape
use Rattle.ps_objects.specs.declared.place.Value.TheVariants as value
use Rattle.ps_kinds.specs.declared.graphics.Colour.{Colour}
use Rattle.ps_kinds.specs.declared.graphics.Colour.TheVariants as colour
use Rattle.ps_kinds.specs.declared.state.State.{State}
use Rattle.ps_memory.specs.Tree.{Application, done, fail, makes, puts}
use Rattle.ps_operator.specs.Budgets.{unit_room}
use Rattle.ps_operator.specs.Looks.{item_place, look_item}
use Rattle.ps_operator.specs.Making.{next_cell}
use Rattle.ps_operator.specs.Registers.{ops, literal, with_ops, spent, quiet}
use Rattle.ps_operator.specs.Tree.{Ask, read, look_then, found}
use Rattle.colour_ops.specs.Colours.{none, full}
use Rattle.colour_ops.specs.Glyphs.{settable}
use Rattle.colour_ops.specs.Setting.{paints}

-- ---- names of spaces

-- the name of a colour's space
abbrev pub space_of : Colour → List ℕ
space_of (colour.Gray g) = codes "DeviceGray"
space_of (colour.Rgb r g b) = codes "DeviceRGB"
space_of (colour.Cmyk c m y k) = codes "DeviceCMYK"

-- the first colour of the space with this name, which is black; another name is a rangecheck
abbrev pub first_colour : List ℕ → Result Colour ErrorName
first_colour name =
    if pointwise nat_eq name (codes "DeviceGray") then Ok (colour.Gray none)
    else (if pointwise nat_eq name (codes "DeviceRGB") then Ok (colour.Rgb none none none)
    else (if pointwise nat_eq name (codes "DeviceCMYK") then Ok (colour.Cmyk none none none full)
    else Err RangeCheck))

-- the same of an item of an array, which has to be a name
abbrev pub item_colour : Kind → Result Colour ErrorName
item_colour (kind.Name name) = first_colour name
item_colour _ = Err RangeCheck

-- ---- setcolorspace

-- a space is told by a name or an array
abbrev pub is_space : Kind → Result (Unit {0}) ErrorName
is_space (kind.Name name) = Ok tt
is_space (kind.Array a packed) = Ok tt
is_space _ = Err TypeCheck

-- an array has one item
abbrev pub one_item : Interval → Result (Unit {0}) ErrorName
one_item a = if nat_eq a.len 1 then Ok tt else Err RangeCheck

-- the first colour of the space that an object with this access tells
abbrev pub colour_in : Access → Kind → Application Colour
colour_in right (kind.Name name) = read (first_colour name) found
colour_in right (kind.Array a packed) =
    read (read_right right) (λ _.
    read (one_item a) (λ _.
    look_item a 0 (λ item.
    read (item_colour item.kind) found)))
colour_in right _ = fail TypeCheck

-- x setcolorspace: the space, with its first colour
abbrev pub setcolorspace : State → Ask
setcolorspace s =
    read (needed 1 (ops s)) (λ _.
    read (object_at 0 (ops s)) (λ x.
    read (is_space x.kind) (λ _.
    read (settable s.frames) (λ _.
    look_then (colour_in x.access x.kind) (λ c.
    paints s 1 c)))))

-- ---- currentcolorspace

-- the array of the next cell, with one item
abbrev pub next_one : State → Interval
next_one s = whole_of (next_cell s) 1

-- currentcolorspace a: a new array with the name of the space
abbrev pub currentcolorspace : State → Ask
currentcolorspace s =
    read (room_for 1 (ops s)) (λ _.
    read (unit_room s.kind s.units 1) (λ _.
    done (makes (next_cell s) (shape.Array 1)
    ∷ puts (item_place (next_one s) 0) (value.Object (literal (kind.Name (space_of s.regs.state.colour))))
    ∷ [])
    (quiet (spent (with_ops s (literal (kind.Array (next_one s) false) ∷ ops s)) 1))))
