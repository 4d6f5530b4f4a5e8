-- Widths, caps and joins of lines, the miter limit, flatness and stroke adjustment (section 8.2 of the language manual).
use Rattle.std.specs.Prelude.{ℤ, pos, Bool, unsigned_abs, int_le, if◌then◌else◌, Result, Ok, Err}
use Rattle.std.specs.Ordering.{int_eq}
use Rattle.ps_shapes.specs.declared.numbers.Real.{Real}
use Rattle.ps_shapes.specs.declared.numbers.TheConstants.{ONE}
use Rattle.ps_fixed.specs.Rounding.{real_of}
use Rattle.ps_names.specs.declared.error_name.ErrorName.{ErrorName}
use Rattle.ps_names.specs.declared.error_name.ErrorName.TheVariants.{RangeCheck}
use Rattle.ps_objects.specs.Operands.{needed, boolean_at, integer_at}
use Rattle.ps_objects.specs.declared.object.Kind.{Kind}
use Rattle.ps_objects.specs.declared.object.Kind.TheVariants as kind
use Rattle.ps_kinds.specs.declared.graphics.GState.{GState}
use Rattle.ps_kinds.specs.declared.ranges.LineCap.{LineCap}
use Rattle.ps_kinds.specs.declared.ranges.LineCap.TheVariants as cap
use Rattle.ps_kinds.specs.declared.ranges.LineJoin.{LineJoin}
use Rattle.ps_kinds.specs.declared.ranges.LineJoin.TheVariants as join
use Rattle.ps_kinds.specs.declared.state.State.{State}
use Rattle.ps_operator.specs.Tree.{Ask, read}
use Rattle.ps_operator.specs.Registers.{ops}
use Rattle.real_operands.specs.Reals.{defined, real_at}
use Rattle.gstate.specs.Setting.{sets, tells}

-- ---- values

-- the absolute value; undefinedresult where it is no real
abbrev pub width_of : Real → Result Real ErrorName
width_of r = defined (real_of (pos (unsigned_abs r.count)))

-- 0 is a butt cap, 1 a round one and 2 a square one; all else is a rangecheck
abbrev pub cap_of : ℤ → Result LineCap ErrorName
cap_of n =
    if int_eq n (pos 0) then Ok cap.Butt
    else if int_eq n (pos 1) then Ok cap.Round
    else if int_eq n (pos 2) then Ok cap.Square
    else Err RangeCheck

-- the number of a cap as an integer; no operator's proof opens this
unfoldable pub cap_kind : LineCap → Kind
cap_kind cap.Butt = kind.Integer (pos 0)
cap_kind cap.Round = kind.Integer (pos 1)
cap_kind cap.Square = kind.Integer (pos 2)

-- 0 is a miter join, 1 a round one and 2 a bevel join; all else is a rangecheck
abbrev pub join_of : ℤ → Result LineJoin ErrorName
join_of n =
    if int_eq n (pos 0) then Ok join.Miter
    else if int_eq n (pos 1) then Ok join.Round
    else if int_eq n (pos 2) then Ok join.Bevel
    else Err RangeCheck

-- the number of a join as an integer; no operator's proof opens this
unfoldable pub join_kind : LineJoin → Kind
join_kind join.Miter = kind.Integer (pos 0)
join_kind join.Round = kind.Integer (pos 1)
join_kind join.Bevel = kind.Integer (pos 2)

-- 1 or more, else rangecheck
abbrev pub miter_of : Real → Result Real ErrorName
miter_of r = if int_le ONE r.count then Ok r else Err RangeCheck

-- ---- the graphics state with another value; no operator's proof opens these

-- with this line width
unfoldable pub with_width : GState → Real → GState
with_width g w = record g { width = w }

-- with this cap
unfoldable pub with_cap : GState → LineCap → GState
with_cap g c = record g { cap = c }

-- with this join
unfoldable pub with_join : GState → LineJoin → GState
with_join g j = record g { join = j }

-- with this miter limit
unfoldable pub with_miter : GState → Real → GState
with_miter g m = record g { miter = m }

-- with this flatness
unfoldable pub with_flat : GState → Real → GState
with_flat g f = record g { flat = f }

-- with stroke adjustment, or without it
unfoldable pub with_adjust : GState → Bool → GState
with_adjust g b = record g { adjust = b }

-- ---- the operators that set

-- n setlinewidth
abbrev pub setlinewidth : State → Ask
setlinewidth s =
    read (needed 1 (ops s)) (λ _.
    read (real_at 0 (ops s)) (λ r.
    read (width_of r) (λ w.
    sets s 1 (with_width s.regs.state w))))

-- i setlinecap
abbrev pub setlinecap : State → Ask
setlinecap s =
    read (needed 1 (ops s)) (λ _.
    read (integer_at 0 (ops s)) (λ i.
    read (cap_of i) (λ c.
    sets s 1 (with_cap s.regs.state c))))

-- i setlinejoin
abbrev pub setlinejoin : State → Ask
setlinejoin s =
    read (needed 1 (ops s)) (λ _.
    read (integer_at 0 (ops s)) (λ i.
    read (join_of i) (λ j.
    sets s 1 (with_join s.regs.state j))))

-- n setmiterlimit
abbrev pub setmiterlimit : State → Ask
setmiterlimit s =
    read (needed 1 (ops s)) (λ _.
    read (real_at 0 (ops s)) (λ r.
    read (miter_of r) (λ m.
    sets s 1 (with_miter s.regs.state m))))

-- n setflat: any number, which is told again and has no effect
abbrev pub setflat : State → Ask
setflat s =
    read (needed 1 (ops s)) (λ _.
    read (real_at 0 (ops s)) (λ r.
    sets s 1 (with_flat s.regs.state r)))

-- b setstrokeadjust: told again, and without effect
abbrev pub setstrokeadjust : State → Ask
setstrokeadjust s =
    read (needed 1 (ops s)) (λ _.
    read (boolean_at 0 (ops s)) (λ b.
    sets s 1 (with_adjust s.regs.state b)))

-- ---- the operators that tell

-- currentlinewidth n
abbrev pub currentlinewidth : State → Ask
currentlinewidth s = tells (kind.Real s.regs.state.width) s

-- currentlinecap i
abbrev pub currentlinecap : State → Ask
currentlinecap s = tells (cap_kind s.regs.state.cap) s

-- currentlinejoin i
abbrev pub currentlinejoin : State → Ask
currentlinejoin s = tells (join_kind s.regs.state.join) s

-- currentmiterlimit n
abbrev pub currentmiterlimit : State → Ask
currentmiterlimit s = tells (kind.Real s.regs.state.miter) s

-- currentflat n
abbrev pub currentflat : State → Ask
currentflat s = tells (kind.Real s.regs.state.flat) s

-- currentstrokeadjust b
abbrev pub currentstrokeadjust : State → Ask
currentstrokeadjust s = tells (kind.Boolean s.regs.state.adjust) s
