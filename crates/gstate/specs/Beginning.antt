-- What `initgraphics` sets (section 8.2 of the language manual).
use Rattle.std.specs.Prelude.{ℕ, []}
use Rattle.ps_shapes.specs.declared.numbers.Matrix.{Matrix}
use Rattle.ps_kinds.specs.declared.graphics.Colour.TheVariants.{Gray}
use Rattle.ps_kinds.specs.declared.graphics.GState.{GState}
use Rattle.ps_kinds.specs.declared.ranges.LineCap.TheVariants.{Butt}
use Rattle.ps_kinds.specs.declared.ranges.LineJoin.TheVariants.{Miter}
use Rattle.ps_kinds.specs.declared.state.State.{State}
use Rattle.ps_meaning.specs.Start.{whole_real, default_matrix, empty_dash_object}
use Rattle.ps_operator.specs.Tree.{Ask}
use Rattle.gstate.specs.Setting.{sets}

-- with this matrix, no path, no clip, and black; no operator's proof opens this
unfoldable pub with_new_page : GState → Matrix → GState
with_new_page g m = record g { ctm = m; path = []; clips = []; colour = Gray (whole_real 0) }

-- with solid lines of width 1, with butt caps and miter joins up to 10; no operator's proof opens this
unfoldable pub with_new_lines : GState → GState
with_new_lines g = record g {
  width = whole_real 1;
  cap = Butt;
  join = Miter;
  miter = whole_real 10;
  dash = empty_dash_object;
  offset = whole_real 0;
  lengths = [];
}

-- The values of the start on a page of the current size. The flatness, the stroke adjustment, what tells of halftones and transfer, the
-- font and the page's size stay.
abbrev pub begun : ℕ → GState → GState
begun dpi g = with_new_lines (with_new_page g (default_matrix dpi g.high))

-- initgraphics
abbrev pub initgraphics : State → Ask
initgraphics s = sets s 0 (begun s.settings.dpi s.regs.state)
