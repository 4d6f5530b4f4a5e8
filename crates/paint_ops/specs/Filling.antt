-- The inside of the current path is painted (section 4.5.2 of the language manual).
use Rattle.std.specs.Prelude.{[]}
use Rattle.ps_shapes.specs.declared.polygon.Rule.{Rule}
use Rattle.ps_shapes.specs.declared.polygon.Rule.TheVariants.{NonZero, EvenOdd}
use Rattle.ps_kinds.specs.declared.state.State.{State}
use Rattle.ps_operator.specs.Tree.{Ask, read}
use Rattle.paint_ops.specs.Outlines.{polygons_of}
use Rattle.paint_ops.specs.Painting.{paints}

-- with an empty path
abbrev pub without_path : State → State
without_path s = record s { regs = record s.regs { state = record s.regs.state { path = [] } } }

-- the path's inside is painted, and the path is emptied
abbrev pub fills : Rule → State → Ask
fills rule s =
    read (polygons_of s.regs.state.path) (λ polygons.
    paints s rule polygons (without_path s))

-- fill: by the nonzero winding number
abbrev pub fill : State → Ask
fill = fills NonZero

-- eofill: by the even-odd rule
abbrev pub eofill : State → Ask
eofill = fills EvenOdd
