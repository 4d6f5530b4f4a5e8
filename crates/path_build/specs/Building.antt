-- Operators that build the current path (section 8.2 of the language manual), and what each leaves.
use Rattle.std.specs.Prelude.{ℕ, List, [], ◌∷◌, drop, Result, Ok, Err}
use Rattle.ps_names.specs.declared.error_name.ErrorName.{ErrorName}
use Rattle.ps_shapes.specs.declared.numbers.Matrix.{Matrix}
use Rattle.ps_shapes.specs.declared.numbers.Real.{Real}
use Rattle.ps_shapes.specs.declared.path.DevicePoint.{DevicePoint}
use Rattle.ps_shapes.specs.declared.path.Segment.{Segment}
use Rattle.ps_shapes.specs.declared.path.Segment.TheVariants.{Line, Curve}
use Rattle.ps_objects.specs.Operands.{needed, room_for}
use Rattle.ps_kinds.specs.declared.state.State.{State}
use Rattle.ps_memory.specs.Tree.{done}
use Rattle.ps_operator.specs.Registers.{ops, quiet, leaves}
use Rattle.ps_operator.specs.Tree.{Ask, read}
use Rattle.real_operands.specs.Points.{point_at, placed, moved}
use Rattle.path_build.specs.Paths.{point_of, begun, point_room, move_room, with_segment, moved_to, closed}
use Rattle.path_build.specs.Points.{going_on, user_point, curve_of, with_point}

-- the current path
abbrev pub path_of : State → List Segment
path_of s = s.regs.state.path

-- from user space to the device
abbrev pub ctm : State → Matrix
ctm s = s.regs.state.ctm

-- with another path, and without the newest n operands
abbrev pub with_path : State → ℕ → List Segment → State
with_path s n path = record s { regs = record s.regs { operands = drop n (ops s); state = record s.regs.state { path = path } } }

-- ends so
abbrev pub draws : State → ℕ → List Segment → Ask
draws s n path = done [] (quiet (with_path s n path))

-- newpath: the path is empty
abbrev pub newpath : State → Ask
newpath s = draws s 0 []

-- currentpoint n n: the current point in user space
abbrev pub currentpoint : State → Ask
currentpoint s =
    read (point_of (path_of s)) (λ p.
    read (user_point (ctm s) p) (λ xy.
    read (room_for 2 (ops s)) (λ _.
    leaves s (with_point xy (ops s)))))

-- n n moveto: a subpath begins
abbrev pub moveto : State → Ask
moveto s =
    read (needed 2 (ops s)) (λ _.
    read (point_at 0 (ops s)) (λ xy.
    read (placed (ctm s) xy.0 xy.1) (λ p.
    read (move_room (path_of s)) (λ _.
    draws s 2 (moved_to (path_of s) p)))))

-- n n rmoveto: a subpath begins, so far from the current point
abbrev pub rmoveto : State → Ask
rmoveto s =
    read (needed 2 (ops s)) (λ _.
    read (point_at 0 (ops s)) (λ xy.
    read (point_of (path_of s)) (λ from.
    read (moved (ctm s) from xy.0 xy.1) (λ p.
    read (move_room (path_of s)) (λ _.
    draws s 2 (moved_to (path_of s) p))))))

-- n n lineto: a line from the current point
abbrev pub lineto : State → Ask
lineto s =
    read (needed 2 (ops s)) (λ _.
    read (point_at 0 (ops s)) (λ xy.
    read (begun (path_of s)) (λ _.
    read (placed (ctm s) xy.0 xy.1) (λ p.
    read (point_room 1 (path_of s)) (λ _.
    draws s 2 (with_segment (path_of s) (Line p)))))))

-- n n rlineto: a line to what lies so far from the current point
abbrev pub rlineto : State → Ask
rlineto s =
    read (needed 2 (ops s)) (λ _.
    read (point_at 0 (ops s)) (λ xy.
    read (point_of (path_of s)) (λ from.
    read (moved (ctm s) from xy.0 xy.1) (λ p.
    read (point_room 1 (path_of s)) (λ _.
    draws s 2 (with_segment (path_of s) (Line p)))))))

-- n n n n n n curveto: a curve from the current point, by two points to the third
abbrev pub curveto : State → Ask
curveto s =
    read (needed 6 (ops s)) (λ _.
    read (point_at 0 (ops s)) (λ c.
    read (point_at 2 (ops s)) (λ b.
    read (point_at 4 (ops s)) (λ a.
    read (begun (path_of s)) (λ _.
    read (curve_of (ctm s) a b c) (λ curve.
    read (point_room 3 (path_of s)) (λ _.
    draws s 6 (with_segment (path_of s) curve))))))))

-- the curve by points that lie so far from one point
abbrev pub curve_from : Matrix → DevicePoint → Real × Real → Real × Real → Real × Real → Result Segment ErrorName
curve_from m from a b c =
    going_on (moved m from a.0 a.1) (λ p.
    going_on (moved m from b.0 b.1) (λ q.
    going_on (moved m from c.0 c.1) (λ r. Ok (Curve p q r))))

-- n n n n n n rcurveto: a curve by points that lie so far from the current point
abbrev pub rcurveto : State → Ask
rcurveto s =
    read (needed 6 (ops s)) (λ _.
    read (point_at 0 (ops s)) (λ c.
    read (point_at 2 (ops s)) (λ b.
    read (point_at 4 (ops s)) (λ a.
    read (point_of (path_of s)) (λ from.
    read (curve_from (ctm s) from a b c) (λ curve.
    read (point_room 3 (path_of s)) (λ _.
    draws s 6 (with_segment (path_of s) curve))))))))

-- closepath: the subpath is closed
abbrev pub closepath : State → Ask
closepath s = draws s 0 (closed (path_of s))
