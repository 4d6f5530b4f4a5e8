-- Rectangles that are painted (section 8.2 of the language manual); numbers in the order x, y, width, height.
use Rattle.std.specs.Prelude.{ℕ, ◌%◌, pos, Bool, true, false, cond, nat_eq, if◌then◌else◌, List, [], ◌∷◌, ◌++◌, drop, Result, Ok, Err}
use Rattle.ps_names.specs.declared.error_name.ErrorName.{ErrorName}
use Rattle.ps_names.specs.declared.error_name.ErrorName.TheVariants.{RangeCheck, TypeCheck}
use Rattle.ps_shapes.specs.declared.numbers.Matrix.{Matrix}
use Rattle.ps_shapes.specs.declared.numbers.Real.{Real}
use Rattle.ps_shapes.specs.declared.path.Segment.{Segment}
use Rattle.ps_shapes.specs.declared.path.Segment.TheVariants.{Move, Line, Close}
use Rattle.ps_shapes.specs.declared.polygon.Point.{Point}
use Rattle.ps_shapes.specs.declared.polygon.Rule.TheVariants.{NonZero}
use Rattle.ps_fixed.specs.Arithmetic.{difference_of}
use Rattle.ps_objects.specs.Operands.{needed, array_at, readable_at}
use Rattle.ps_objects.specs.declared.object.Kind.{Kind}
use Rattle.ps_objects.specs.declared.object.Kind.TheVariants as kind
use Rattle.ps_objects.specs.declared.object.Object.{Object}
use Rattle.ps_objects.specs.declared.objects.Interval.{Interval}
use Rattle.ps_objects.specs.declared.objects.Number.TheVariants as number
use Rattle.ps_kinds.specs.declared.state.State.{State}
use Rattle.ps_operator.specs.Arrays.{items_of}
use Rattle.ps_operator.specs.Registers.{ops, with_ops}
use Rattle.ps_operator.specs.Tree.{Ask, read, look_then}
use Rattle.real_operands.specs.Points.{point_at, placed, moved}
use Rattle.real_operands.specs.Reals.{as_real, defined}
use Rattle.paint_ops.specs.declared.rectangles.Rectangle.{Rectangle}
use Rattle.paint_ops.specs.declared.rectangles.Corners.{Corners}
use Rattle.paint_ops.specs.Outlines.{polygons_of}
use Rattle.paint_ops.specs.Painting.{paints}

-- what k gives of a result, where that is no error
abbrev pub going_on : {A B : Type 0} → Result A ErrorName → (A → Result B ErrorName) → Result B ErrorName
going_on (Ok x) k = k x
going_on (Err e) k = Err e

-- ---- a rectangle as a path

-- 0
abbrev pub nought : Real
nought = record { count = pos 0 }

-- the corners in the order in which they are drawn: from (x, y) by the width, by the height, and by the width back
abbrev pub corners_of : Matrix → Rectangle → Result Corners ErrorName
corners_of m r =
    going_on (placed m r.x r.y) (λ a.
    going_on (moved m a r.width nought) (λ b.
    going_on (moved m b nought r.height) (λ c.
    going_on (defined (difference_of nought r.width)) (λ back.
    going_on (moved m c back nought) (λ d.
    Ok (record { first = a; second = b; third = c; fourth = d }))))))

-- a closed subpath through the corners
abbrev pub outline : Corners → List Segment
outline c = Move c.first ∷ Line c.second ∷ Line c.third ∷ Line c.fourth ∷ Close ∷ []

-- the rectangles of four numbers each, behind what was drawn; fewer numbers than four draw nothing
abbrev pub drawn_behind : Matrix → List Segment → List Real → Result (List Segment) ErrorName
drawn_behind m path (x ∷ y ∷ w ∷ h ∷ rest) =
    going_on (corners_of m (record { x = x; y = y; width = w; height = h })) (λ c.
    drawn_behind m (path ++ outline c) rest)
drawn_behind m path _ = Ok path

-- the polygons of rectangles, which are one path; no operator's proof opens this
unfoldable pub rectangle_polygons : Matrix → List Real → Result (List (List Point)) ErrorName
rectangle_polygons m numbers = going_on (drawn_behind m [] numbers) polygons_of

-- ---- arrays of numbers

-- four numbers for each rectangle; else rangecheck
abbrev pub fours : Interval → Result (Unit {0}) ErrorName
fours a = if nat_eq (a.len % 4) 0 then Ok tt else Err RangeCheck

-- the number that an item is; else typecheck
abbrev pub real_in : Kind → Result Real ErrorName
real_in (kind.Integer n) = Ok (as_real (number.Integer n))
real_in (kind.Real r) = Ok r
real_in _ = Err TypeCheck

-- the numbers that items are, behind those that were read
abbrev pub reals_behind : List Real → List Object → Result (List Real) ErrorName
reals_behind seen [] = Ok seen
reals_behind seen (x ∷ xs) = going_on (real_in x.kind) (λ r. reals_behind (seen ++ r ∷ []) xs)

-- ---- the operator

-- rectangles are painted in the place of n operands, and the path stays
abbrev pub fills_all : State → ℕ → List Real → Ask
fills_all s n numbers =
    read (rectangle_polygons s.regs.state.ctm numbers) (λ polygons.
    paints s NonZero polygons (with_ops s (drop n (ops s))))

-- x y width height
abbrev pub fills_one : State → Ask
fills_one s =
    read (needed 4 (ops s)) (λ _.
    read (point_at 0 (ops s)) (λ size.
    read (point_at 2 (ops s)) (λ corner.
    fills_all s 4 (corner.0 ∷ corner.1 ∷ size.0 ∷ size.1 ∷ []))))

-- an array: all items are looked at before one is judged
abbrev pub fills_array : State → Ask
fills_array s =
    read (array_at 0 (ops s)) (λ a.
    read (readable_at 0 (ops s)) (λ _.
    read (fours a) (λ _.
    look_then (items_of a) (λ items.
    read (reals_behind [] items) (λ numbers.
    fills_all s 1 numbers)))))

-- the newest operand is an array
abbrev pub is_array_next : List Object → Bool
is_array_next xs = elim (array_at 0 xs) [ Ok a ↦ true | Err e ↦ false ]

-- x y width height rectfill, or a rectfill: the newest operand tells which
abbrev pub rectfill : State → Ask
rectfill s = cond (is_array_next (ops s)) (fills_array s) (fills_one s)
