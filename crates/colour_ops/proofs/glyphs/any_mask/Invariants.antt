use Rattle.std.proofs.Common.{◌≡◌, drop}
use Rattle.ps_operator.specs.Registers.{any_of}
use Rattle.colour_ops.specs.Glyphs.{shows_mask}
use Rattle.colour_ops.proofs.glyphs.any_mask.Given as goal

-- one of those left shows such a glyph where one of all does
abbrev pub invariant-loop-depth : goal.invariant-loop-depth
invariant-loop-depth l = any_of shows_mask (drop l.depth l.frames) ≡ any_of shows_mask l.frames
