-- Arcs of circles, as curves (section 8.2 of the language manual). How an arc is cut and where its control points lie is the project's own rule.
use Rattle.std.specs.Prelude.{◌≡◌, ℕ, zero, suc, ◌+◌, ◌-◌, ◌*◌, ◌/◌, ℤ, pos, neg_ℤ, ◌-ℤ◌, ◌*ℤ◌, int_le, nat_lt, if◌then◌else◌, unsigned_abs, List, [], ◌∷◌, ◌++◌, Result, Ok, Err, ⊤}
use Rattle.std.specs.Int.{int_rem_euclid, int_div_euclid}
use Rattle.ps_names.specs.declared.error_name.ErrorName.{ErrorName}
use Rattle.ps_names.specs.declared.error_name.ErrorName.TheVariants.{LimitCheck}
use Rattle.ps_shapes.specs.declared.numbers.Matrix.{Matrix}
use Rattle.ps_shapes.specs.declared.numbers.Real.{Real}
use Rattle.ps_shapes.specs.declared.path.DevicePoint.{DevicePoint}
use Rattle.ps_shapes.specs.declared.path.Segment.{Segment}
use Rattle.ps_shapes.specs.declared.path.Segment.TheVariants.{Move, Line}
use Rattle.ps_fixed.specs.Arithmetic.{sum_of, difference_of, product_of, quotient_of, and_then}
use Rattle.ps_fixed.specs.Sines.{full_turn, quarter_turn, sine_of, cosine_of}
use Rattle.ps_fixed.specs.declared.rounding.Undefined.{Undefined}
use Rattle.ps_objects.specs.Operands.{needed}
use Rattle.ps_objects.specs.declared.object.Object.{Object}
use Rattle.ps_objects.specs.declared.refusal.Refusal.{Refusal}
use Rattle.ps_objects.specs.declared.refusal.Refusal.TheVariants as refusal
use Rattle.ps_kinds.specs.declared.state.State.{State}
use Rattle.ps_operator.specs.Registers.{ops}
use Rattle.ps_operator.specs.Tree.{Ask, read}
use Rattle.real_operands.specs.Points.{point_at, placed}
use Rattle.real_operands.specs.Reals.{real_at, defined}
use Rattle.path_build.specs.declared.arcs.Sweep.{Sweep}
use Rattle.path_build.specs.declared.arcs.Turn.{Turn}
use Rattle.path_build.specs.declared.arcs.Turn.TheVariants.{Up, Down}
use Rattle.path_build.specs.Paths.{point_room, with_segment}
use Rattle.path_build.specs.Points.{going_on, curve_of}
use Rattle.path_build.specs.Building.{path_of, ctm, draws}

-- ---- how far it goes

-- from one angle up to another, which is raised by whole turns until it isn't below the first
abbrev pub raised : ℤ → ℤ → ℤ
raised from to =
    let way = to -ℤ from in
    if int_le (pos 0) way then way else int_rem_euclid way (pos full_turn)

-- up; or down, to an angle that is lowered by whole turns until it isn't above the first
abbrev pub way_of : Turn → ℤ → ℤ → ℤ
way_of Up from to = raised from to
way_of Down from to = neg_ℤ (raised to from)

-- ten turns
abbrev pub farthest : ℕ
farthest = 60397977600

-- at most ten turns
abbrev pub turn_right : ℤ → Result ℤ ErrorName
turn_right way = if nat_lt farthest (unsigned_abs way) then Err LimitCheck else Ok way

-- the least number of pieces of at most a quarter turn
abbrev pub pieces_of : ℤ → ℕ
pieces_of way = (unsigned_abs way + (quarter_turn - 1)) / quarter_turn

-- ---- where it goes

-- a whole number as a real
abbrev pub whole : ℕ → Real
whole n = record { count = pos (n * 16777216) }

-- the sine of an angle
abbrev pub sine : Real → Real
sine angle = record { count = sine_of angle.count }

-- the cosine of an angle
abbrev pub cosine : Real → Real
cosine angle = record { count = cosine_of angle.count }

-- minus the sine of an angle
abbrev pub against_sine : Real → Real
against_sine angle = record { count = neg_ℤ (sine_of angle.count) }

-- how far on piece n begins: so many of all pieces, rounded down
abbrev pub turned : Sweep → ℕ → Real
turned c n = record { count = int_div_euclid (c.way *ℤ pos n) (pos c.pieces) }

-- the angle where piece n begins, and the one before it ends
abbrev pub angle_at : Sweep → ℕ → Result Real Undefined
angle_at c n = sum_of c.first (turned c n)

-- the point at an angle
abbrev pub rim : Sweep → Real → Result (Real × Real) Undefined
rim c angle =
    and_then (product_of c.radius (cosine angle)) (λ right.
    and_then (sum_of c.x right) (λ x.
    and_then (product_of c.radius (sine angle)) (λ up.
    and_then (sum_of c.y up) (λ y. Ok (x, y)))))

-- how far a control point lies from its end of a piece: r·(4·sin δ / (3·cos δ)), where δ is a quarter of the piece's angle
abbrev pub handle : Real → Real → Real → Result Real Undefined
handle radius from to =
    and_then (difference_of to from) (λ angle.
    and_then (quotient_of angle (whole 4)) (λ quarter.
    and_then (product_of (whole 4) (sine quarter)) (λ over.
    and_then (product_of (whole 3) (cosine quarter)) (λ under.
    and_then (quotient_of over under) (λ ratio. product_of radius ratio)))))

-- so far on from a point, at right angles to its angle
abbrev pub ahead : Real × Real → Real → Real → Result (Real × Real) Undefined
ahead p far angle =
    and_then (product_of far (against_sine angle)) (λ right.
    and_then (sum_of p.0 right) (λ x.
    and_then (product_of far (cosine angle)) (λ up.
    and_then (sum_of p.1 up) (λ y. Ok (x, y)))))

-- so far back
abbrev pub behind : Real × Real → Real → Real → Result (Real × Real) Undefined
behind p far angle =
    and_then (product_of far (against_sine angle)) (λ right.
    and_then (difference_of p.0 right) (λ x.
    and_then (product_of far (cosine angle)) (λ up.
    and_then (difference_of p.1 up) (λ y. Ok (x, y)))))

-- the two control points and the end of the piece between two angles
abbrev pub bow : Sweep → Real → Real → Result ((Real × Real) × (Real × Real) × (Real × Real)) Undefined
bow c from to =
    and_then (rim c from) (λ first.
    and_then (rim c to) (λ last.
    and_then (handle c.radius from to) (λ far.
    and_then (ahead first far from) (λ a.
    and_then (behind last far to) (λ b. Ok (a, b, last))))))

-- those of piece n
abbrev pub bow_at : Sweep → ℕ → Result ((Real × Real) × (Real × Real) × (Real × Real)) Undefined
bow_at c n = and_then (angle_at c n) (λ from. and_then (angle_at c (n + 1)) (λ to. bow c from to))

-- ---- its segments

-- piece n as a curve
abbrev pub piece : Matrix → Sweep → ℕ → Result Segment ErrorName
piece m c n = going_on (defined (bow_at c n)) (λ b. curve_of m b.0 b.1 b.2)

-- piece n and those behind it, so many in all, after those that were made
abbrev pub pieces_from : Matrix → Sweep → ℕ → ℕ → List Segment → Result (List Segment) ErrorName
pieces_from m c n zero made = Ok made
pieces_from m c n (suc left) made = going_on (piece m c n) (λ curve. pieces_from m c (n + 1) left (made ++ curve ∷ []))

-- this is the error that came; want of memory is free
abbrev pub IsRefused : Result (List Segment) ErrorName → Refusal → Type 0
IsRefused r (refusal.Error e) = r ≡ Err e
IsRefused r refusal.NoMemory = ⊤

-- what leads to an arc: a line from the current point, or a Move where there is none
abbrev pub leading : List Segment → DevicePoint → Segment
leading [] p = Move p
leading (segment ∷ path) p = Line p

-- where an arc begins
abbrev pub arc_start : Matrix → Sweep → Result DevicePoint ErrorName
arc_start m c = going_on (defined (rim c c.first)) (λ xy. placed m xy.0 xy.1)

-- the arc is drawn: where it begins, then its pieces, then room for their points
abbrev pub draws_arc : State → Sweep → Ask
draws_arc s c =
    read (arc_start (ctm s) c) (λ p.
    read (pieces_from (ctm s) c 0 c.pieces []) (λ curves.
    read (point_room (1 + 3 * c.pieces) (path_of s)) (λ _.
    draws s 5 (with_segment (path_of s) (leading (path_of s) p) ++ curves))))

-- the arc round a point, from an angle so far
abbrev pub arc_of : Real × Real → Real → Real → ℤ → Sweep
arc_of centre radius first way = record { x = centre.0; y = centre.1; radius = radius; first = first; way = way; pieces = pieces_of way }

-- the arc that the newest five operands tell
abbrev pub arc_at : Turn → List Object → Result Sweep ErrorName
arc_at turn xs =
    going_on (needed 5 xs) (λ _.
    going_on (real_at 0 xs) (λ to.
    going_on (real_at 1 xs) (λ from.
    going_on (real_at 2 xs) (λ radius.
    going_on (point_at 3 xs) (λ centre.
    going_on (turn_right (way_of turn from.count to.count)) (λ way. Ok (arc_of centre radius from way)))))))

-- an arc that turns up or down
abbrev pub arc_by : Turn → State → Ask
arc_by turn s = read (arc_at turn (ops s)) (λ arc. draws_arc s arc)

-- n n n n n arc: from one angle up to another
abbrev pub arc : State → Ask
arc = arc_by Up

-- n n n n n arcn: from one angle down to another
abbrev pub arcn : State → Ask
arcn = arc_by Down
