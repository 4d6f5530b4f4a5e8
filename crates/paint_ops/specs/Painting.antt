-- What is painted: the pixels inside polygons and inside every clip, in the gray of the colour (section 4.5 of the language manual).
use Rattle.std.specs.Prelude.{ℕ, Bool, ◌&&◌, List, [], if◌then◌else◌}
use Rattle.std.specs.List.{list_all}
use Rattle.ps_shapes.specs.declared.clip.Clip.{Clip}
use Rattle.ps_shapes.specs.declared.polygon.Point.{Point}
use Rattle.ps_shapes.specs.declared.polygon.Rule.{Rule}
use Rattle.ps_shapes.specs.Sheet.{Sheet}
use Rattle.path_cover.specs.Cover.{covers}
use Rattle.ps_paper.specs.Ink.{painted}
use Rattle.ps_kinds.specs.declared.graphics.GState.{GState}
use Rattle.ps_kinds.specs.declared.state.State.{State}
use Rattle.ps_memory.specs.Tree.{done}
use Rattle.ps_meaning.specs.Answer.{Log}
use Rattle.ps_operator.specs.Registers.{quiet}
use Rattle.ps_operator.specs.Tree.{Ask}
use Rattle.colour_ops.specs.Colours.{gray_of}
use Rattle.paint_ops.specs.Measuring.{is_measured}
use Rattle.paint_ops.specs.Papers.{repaints, repainted_in}

-- inside every clip, each by its own rule
abbrev pub is_in_clips : List Clip → ℕ → ℕ → Bool
is_in_clips clips x y = list_all (λ (c : Clip). covers c.polygons c.rule x y) clips

-- inside the polygons, by a rule, and inside every clip
abbrev pub is_painted : GState → Rule → List (List Point) → ℕ → ℕ → Bool
is_painted g rule polygons x y = covers polygons rule x y && is_in_clips g.clips x y

-- the paper with these pixels in the gray of the colour, under the thresholds
abbrev pub painted_on : GState → Rule → List (List Point) → Sheet → Sheet
painted_on g rule polygons paper =
    painted paper (is_painted g rule polygons) (gray_of g.colour).count g.thresholds

-- Polygons are painted, and the operator ends with a state. The paper is looked at and stored even where no pixel changes; while a string
-- is only measured it is neither. No operator's proof opens this.
unfoldable pub paints : State → Rule → List (List Point) → State → Ask
paints s rule polygons after =
    if is_measured s.frames then done [] (quiet after)
    else repaints (painted_on s.regs.state rule polygons) after

-- what becomes of a log; no operator's proof opens this
unfoldable pub painted_in : State → Rule → List (List Point) → Log → Log
painted_in s rule polygons log =
    if is_measured s.frames then log
    else repainted_in (painted_on s.regs.state rule polygons) log
