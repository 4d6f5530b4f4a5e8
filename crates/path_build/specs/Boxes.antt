-- The box of the current path (section 8.2 of the language manual).
use Rattle.std.specs.Prelude.{ℕ, int_le, if◌then◌else◌, List, [], ◌∷◌, Result, Ok, Err}
use Rattle.ps_names.specs.declared.error_name.ErrorName.{ErrorName}
use Rattle.ps_shapes.specs.declared.numbers.Matrix.{Matrix}
use Rattle.ps_shapes.specs.declared.numbers.Real.{Real}
use Rattle.ps_shapes.specs.declared.path.DevicePoint.{DevicePoint}
use Rattle.ps_shapes.specs.declared.path.Segment.{Segment}
use Rattle.ps_shapes.specs.declared.path.Segment.TheVariants.{Move, Line, Curve, Close}
use Rattle.ps_fixed.specs.Matrices.{image_of}
use Rattle.ps_objects.specs.Operands.{room_for}
use Rattle.ps_kinds.specs.declared.state.State.{State}
use Rattle.ps_operator.specs.Registers.{ops, leaves}
use Rattle.ps_operator.specs.Tree.{Ask, read}
use Rattle.real_operands.specs.Reals.{defined}
use Rattle.path_build.specs.declared.boxes.Extent.{Extent}
use Rattle.path_build.specs.Paths.{point_of}
use Rattle.path_build.specs.Points.{going_on, way_back, with_point}
use Rattle.path_build.specs.Building.{path_of, ctm}

-- the lesser of two
abbrev pub lesser : Real → Real → Real
lesser a b = if int_le a.count b.count then a else b

-- the greater of two
abbrev pub greater : Real → Real → Real
greater a b = if int_le a.count b.count then b else a

-- the box of one point
abbrev pub box_at : Real → Real → Extent
box_at x y = record { left = x; low = y; right = x; high = y }

-- the least box that has one more point
abbrev pub widened : Extent → Real → Real → Extent
widened b x y = record { left = lesser b.left x; low = lesser b.low y; right = greater b.right x; high = greater b.high y }

-- the same of a point of the device
abbrev pub with_device : Extent → DevicePoint → Extent
with_device b p = widened b p.x p.y

-- with the points of a segment, the control points of a curve too
abbrev pub with_points : Extent → Segment → Extent
with_points b (Move p) = with_device b p
with_points b (Line p) = with_device b p
with_points b (Curve p q r) = with_device (with_device (with_device b p) q) r
with_points b Close = b

-- with the points of all these
abbrev pub box_from : Extent → List Segment → Extent
box_from b [] = b
box_from b (segment ∷ path) = box_from (with_points b segment) path

-- the box of the path's points on the device, of which the current point is one
abbrev pub device_box : List Segment → Result Extent ErrorName
device_box path = going_on (point_of path) (λ p. Ok (box_from (box_at p.x p.y) path))

-- the least box that has four points of user space
abbrev pub box_of_four : Real × Real → Real × Real → Real × Real → Real × Real → Extent
box_of_four a b c d = widened (widened (widened (box_at a.0 a.1) b.0 b.1) c.0 c.1) d.0 d.1

-- a corner by the way back to user space
abbrev pub corner : Matrix → Real → Real → Result (Real × Real) ErrorName
corner back x y = defined (image_of back x y)

-- the box of the four corners of a box of the device, in user space
abbrev pub user_box : Matrix → Extent → Result Extent ErrorName
user_box m b =
    going_on (way_back m) (λ back.
    going_on (corner back b.left b.low) (λ one.
    going_on (corner back b.right b.low) (λ two.
    going_on (corner back b.right b.high) (λ three.
    going_on (corner back b.left b.high) (λ four. Ok (box_of_four one two three four))))))

-- pathbbox n n n n: the box's least x and y, and its greatest
abbrev pub pathbbox : State → Ask
pathbbox s =
    read (device_box (path_of s)) (λ b.
    read (user_box (ctm s) b) (λ u.
    read (room_for 4 (ops s)) (λ _.
    leaves s (with_point (u.right, u.high) (with_point (u.left, u.low) (ops s))))))
