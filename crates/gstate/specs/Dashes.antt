-- Dash patterns (section 8.2 of the language manual).
use Rattle.std.specs.Prelude.{pos, Bool, not, ◌&&◌, int_lt, nat_lt, List, [], ◌∷◌, ◌++◌, length, if◌then◌else◌, Result, Ok, Err}
use Rattle.ps_shapes.specs.declared.numbers.Real.{Real}
use Rattle.ps_names.specs.declared.error_name.ErrorName.{ErrorName}
use Rattle.ps_names.specs.declared.error_name.ErrorName.TheVariants.{LimitCheck, RangeCheck}
use Rattle.ps_objects.specs.Operands.{needed, room_for, object_at, array_at, readable_at}
use Rattle.ps_objects.specs.declared.object.Kind.{Kind}
use Rattle.ps_objects.specs.declared.object.Kind.TheVariants as kind
use Rattle.ps_objects.specs.declared.object.Object.{Object}
use Rattle.ps_objects.specs.declared.objects.Number.TheVariants as number
use Rattle.ps_kinds.specs.declared.graphics.GState.{GState}
use Rattle.ps_kinds.specs.declared.state.State.{State}
use Rattle.ps_operator.specs.Arrays.{items_of}
use Rattle.ps_operator.specs.Tree.{Ask, read, look_then}
use Rattle.ps_operator.specs.Registers.{ops, literal, leaves, any_of}
use Rattle.real_operands.specs.Reals.{as_real, real_at}
use Rattle.gstate.specs.Setting.{sets}

-- ---- patterns

-- a length, which isn't negative: rangecheck
abbrev pub not_negative : Real → Result Real ErrorName
not_negative r = if int_lt r.count (pos 0) then Err RangeCheck else Ok r

-- the length that an item tells; rangecheck where it is no number
abbrev pub length_of : Kind → Result Real ErrorName
length_of (kind.Integer n) = not_negative (as_real (number.Integer n))
length_of (kind.Real r) = not_negative r
length_of _ = Err RangeCheck

-- the lengths that items tell, after those that were read
abbrev pub lengths_from : List Real → List Object → Result (List Real) ErrorName
lengths_from seen [] = Ok seen
lengths_from seen (x ∷ xs) = elim (length_of x.kind) [ Err e ↦ Err e | Ok r ↦ lengths_from (seen ++ r ∷ []) xs ]

-- more than 0
abbrev pub is_some : Real → Bool
is_some r = int_lt (pos 0) r.count

-- there are lengths, and none is more than 0
abbrev pub is_idle : List Real → Bool
is_idle rs = nat_lt 0 (length rs) && not (any_of is_some rs)

-- Lengths of a pattern: not all of them are 0, else rangecheck, and they are at most 32, else limitcheck. None at all is a solid line.
abbrev pub pattern_of : List Real → Result (List Real) ErrorName
pattern_of rs =
    if is_idle rs then Err RangeCheck
    else if nat_lt 32 (length rs) then Err LimitCheck
    else Ok rs

-- the pattern that the items of an array tell
abbrev pub dash_of : List Object → Result (List Real) ErrorName
dash_of xs = elim (lengths_from [] xs) [ Err e ↦ Err e | Ok rs ↦ pattern_of rs ]

-- ---- the operators

-- with this array, this offset, and the lengths that the array told; no operator's proof opens this
unfoldable pub with_dash : GState → Object → Real → List Real → GState
with_dash g x offset rs = record g { dash = x; offset = offset; lengths = rs }

-- a n setdash: all items are looked at before one is judged
abbrev pub setdash : State → Ask
setdash s =
    read (needed 2 (ops s)) (λ _.
    read (real_at 0 (ops s)) (λ offset.
    read (array_at 1 (ops s)) (λ array.
    read (object_at 1 (ops s)) (λ x.
    read (readable_at 1 (ops s)) (λ _.
    look_then (items_of array) (λ items.
    read (dash_of items) (λ rs.
    sets s 2 (with_dash s.regs.state x offset rs))))))))

-- currentdash a n
abbrev pub currentdash : State → Ask
currentdash s =
    read (room_for 2 (ops s)) (λ _.
    leaves s (literal (kind.Real s.regs.state.offset) ∷ s.regs.state.dash ∷ ops s))
