-- Each operator keeps a state that fits: its tree again, with what fits beside each end.
use Rattle.std.proofs.Common.{◌≡◌, ℕ, ◌+◌, ◌*◌, List, [], ◌∷◌, ◌++◌, drop, Ok}
use Rattle.ps_shapes.specs.declared.path.Segment.{Segment}
use Rattle.ps_shapes.specs.declared.path.Segment.TheVariants.{Line}
use Rattle.ps_objects.specs.Operands.{needed, room_for, object_at}
use Rattle.ps_objects.specs.declared.object.Object.{Object}
use Rattle.ps_kinds.specs.declared.frame.Frame.TheVariants as frame
use Rattle.ps_kinds.specs.declared.state.State.{State}
use Rattle.ps_meaning.specs.Fits.{Shapes, FitsObject}
use Rattle.ps_meaning.specs.Ready.{Fits}
use Rattle.ps_meaning.specs.Sound.{World}
use Rattle.ps_operator.specs.Budgets.{frames_room}
use Rattle.ps_operator.specs.Lawful.{Keeps, IsLawful}
use Rattle.ps_operator.specs.Operators.{AreLawful}
use Rattle.ps_operator.specs.Registers.{ops}
use Rattle.ps_operator.proofs.Ending.{registers_keeps}
use Rattle.ps_operator.proofs.Fitting.{Fit, drop_fits, object_fits}
use Rattle.ps_operator.proofs.Lawful.{read_keeps, leaves_keeps, begins_keeps}
use Rattle.ps_operator.proofs.Running.{◌▹◌, all_lawful}
use Rattle.real_operands.specs.Points.{point_at, placed, moved}
use Rattle.real_operands.specs.Reals.{real_at}
use Rattle.path_build.specs.declared.arcs.Sweep.{Sweep}
use Rattle.path_build.specs.declared.arcs.Turn.{Turn}
use Rattle.path_build.specs.declared.arcs.Turn.TheVariants.{Up, Down}
use Rattle.path_build.specs.Paths.{point_of, begun, point_room, move_room, with_segment, moved_to, closed}
use Rattle.path_build.specs.Points.{user_point, curve_of, with_point}
use Rattle.path_build.specs.Building.{path_of, ctm, draws, newpath, currentpoint, moveto, rmoveto, lineto, rlineto, curveto, curve_from, rcurveto, closepath}
use Rattle.path_build.specs.Arcs.{way_of, turn_right, pieces_from, leading, arc_start, draws_arc, arc_at, arc_by, arc, arcn}
use Rattle.path_build.specs.Boxes.{device_box, user_box, pathbbox}
use Rattle.path_build.specs.Walks.{walk_of, are_bodies, pathforall}
use Rattle.path_build.specs.Operators.{operators, run}

module _ (text : List ℕ) (s : State) (W : World) (f : Fits text W s) where
  -- ends with another path
  draws_keeps : (n : ℕ) (path : List Segment) → Keeps text 4 s.frames (draws s n path) s W
  draws_keeps n path =
      let r = f.state.registers in
      let g = r.state in
      registers_keeps f (record s.regs { operands = drop n (ops s); state = record s.regs.state { path = path } })
      (record {
        operands = drop_fits W.shapes n (ops s) r.operands;
        dicts = r.dicts;
        bottom = r.bottom;
        state = record { dash = g.dash; spot = g.spot; transfer = g.transfer; halftone = g.halftone; font = g.font };
        states = r.states;
        marks = r.marks;
        size = r.size;
      })

  arc_keeps : (c : Sweep) → Keeps text 4 s.frames (draws_arc s c) s W
  arc_keeps c =
      read_keeps (arc_start (ctm s) c) (λ p _.
      read_keeps (pieces_from (ctm s) c 0 c.pieces []) (λ curves _.
      read_keeps (point_room (1 + 3 * c.pieces) (path_of s)) (λ _ _.
      draws_keeps 5 (with_segment (path_of s) (leading (path_of s) p) ++ curves))))

  operand_fits : (i : ℕ) (x : Object) → object_at i (ops s) ≡ Ok x → FitsObject W.shapes x
  operand_fits i x e = object_fits W.shapes (ops s) i x f.state.registers.operands e

-- ---- operators that build

newpath_keeps : IsLawful newpath
newpath_keeps text s W f = draws_keeps text s W f 0 []

currentpoint_keeps : IsLawful currentpoint
currentpoint_keeps text s W f =
    read_keeps (point_of (path_of s)) (λ p _.
    read_keeps (user_point (ctm s) p) (λ xy _.
    read_keeps (room_for 2 (ops s)) (λ _ _.
    leaves_keeps f (with_point xy (ops s)) (tt, (tt, f.state.registers.operands)))))

moveto_keeps : IsLawful moveto
moveto_keeps text s W f =
    read_keeps (needed 2 (ops s)) (λ _ _.
    read_keeps (point_at 0 (ops s)) (λ xy _.
    read_keeps (placed (ctm s) xy.0 xy.1) (λ p _.
    read_keeps (move_room (path_of s)) (λ _ _.
    draws_keeps text s W f 2 (moved_to (path_of s) p)))))

rmoveto_keeps : IsLawful rmoveto
rmoveto_keeps text s W f =
    read_keeps (needed 2 (ops s)) (λ _ _.
    read_keeps (point_at 0 (ops s)) (λ xy _.
    read_keeps (point_of (path_of s)) (λ from _.
    read_keeps (moved (ctm s) from xy.0 xy.1) (λ p _.
    read_keeps (move_room (path_of s)) (λ _ _.
    draws_keeps text s W f 2 (moved_to (path_of s) p))))))

lineto_keeps : IsLawful lineto
lineto_keeps text s W f =
    read_keeps (needed 2 (ops s)) (λ _ _.
    read_keeps (point_at 0 (ops s)) (λ xy _.
    read_keeps (begun (path_of s)) (λ _ _.
    read_keeps (placed (ctm s) xy.0 xy.1) (λ p _.
    read_keeps (point_room 1 (path_of s)) (λ _ _.
    draws_keeps text s W f 2 (with_segment (path_of s) (Line p)))))))

rlineto_keeps : IsLawful rlineto
rlineto_keeps text s W f =
    read_keeps (needed 2 (ops s)) (λ _ _.
    read_keeps (point_at 0 (ops s)) (λ xy _.
    read_keeps (point_of (path_of s)) (λ from _.
    read_keeps (moved (ctm s) from xy.0 xy.1) (λ p _.
    read_keeps (point_room 1 (path_of s)) (λ _ _.
    draws_keeps text s W f 2 (with_segment (path_of s) (Line p)))))))

curveto_keeps : IsLawful curveto
curveto_keeps text s W f =
    read_keeps (needed 6 (ops s)) (λ _ _.
    read_keeps (point_at 0 (ops s)) (λ c _.
    read_keeps (point_at 2 (ops s)) (λ b _.
    read_keeps (point_at 4 (ops s)) (λ a _.
    read_keeps (begun (path_of s)) (λ _ _.
    read_keeps (curve_of (ctm s) a b c) (λ curve _.
    read_keeps (point_room 3 (path_of s)) (λ _ _.
    draws_keeps text s W f 6 (with_segment (path_of s) curve))))))))

rcurveto_keeps : IsLawful rcurveto
rcurveto_keeps text s W f =
    read_keeps (needed 6 (ops s)) (λ _ _.
    read_keeps (point_at 0 (ops s)) (λ c _.
    read_keeps (point_at 2 (ops s)) (λ b _.
    read_keeps (point_at 4 (ops s)) (λ a _.
    read_keeps (point_of (path_of s)) (λ from _.
    read_keeps (curve_from (ctm s) from a b c) (λ curve _.
    read_keeps (point_room 3 (path_of s)) (λ _ _.
    draws_keeps text s W f 6 (with_segment (path_of s) curve))))))))

closepath_keeps : IsLawful closepath
closepath_keeps text s W f = draws_keeps text s W f 0 (closed (path_of s))

-- ---- arcs

arc_by_keeps : (turn : Turn) → IsLawful (arc_by turn)
arc_by_keeps turn text s W f = read_keeps (arc_at turn (ops s)) (λ c _. arc_keeps text s W f c)

-- ---- the box

pathbbox_keeps : IsLawful pathbbox
pathbbox_keeps text s W f =
    read_keeps (device_box (path_of s)) (λ b _.
    read_keeps (user_box (ctm s) b) (λ u _.
    read_keeps (room_for 4 (ops s)) (λ _ _.
    leaves_keeps f (with_point (u.right, u.high) (with_point (u.left, u.low) (ops s))) (tt, (tt, (tt, (tt, f.state.registers.operands)))))))

-- ---- walks

pathforall_keeps : IsLawful pathforall
pathforall_keeps text s W f =
    read_keeps (needed 4 (ops s)) (λ _ _.
    read_keeps (are_bodies (ops s)) (λ _ _.
    read_keeps (object_at 0 (ops s)) (λ z e.
    read_keeps (object_at 1 (ops s)) (λ c d.
    read_keeps (object_at 2 (ops s)) (λ l b.
    read_keeps (object_at 3 (ops s)) (λ m a.
    read_keeps (frames_room 1 s.frames) (λ _ _.
    begins_keeps f (drop 4 (ops s)) (frame.Walk (walk_of (path_of s) m l c z)) (drop_fits W.shapes 4 (ops s) f.state.registers.operands)
    (operand_fits text s W f 3 m a, operand_fits text s W f 2 l b, operand_fits text s W f 1 c d, operand_fits text s W f 0 z e))))))))

-- ---- all of them

all_keep : AreLawful operators
all_keep =
    newpath_keeps ▹ currentpoint_keeps ▹ moveto_keeps ▹ rmoveto_keeps ▹ lineto_keeps ▹ rlineto_keeps ▹ curveto_keeps
    ▹ rcurveto_keeps ▹ arc_by_keeps Up ▹ arc_by_keeps Down ▹ closepath_keeps ▹ pathbbox_keeps ▹ pathforall_keeps ▹ tt

pub run_keeps : (n : ℕ) → IsLawful (run n)
run_keeps = all_lawful operators all_keep
