use Rattle.std.proofs.Common.{◌≡◌, drop}
use Rattle.ps_operator.specs.Registers.{any_of}
use Rattle.save_restore.specs.Restoring.{glyph_newer}
use Rattle.save_restore.proofs.restoring.glyphs_newer.Given as goal

-- one of those left is newer where one of all is
abbrev pub invariant-loop-depth : goal.invariant-loop-depth
invariant-loop-depth l = any_of (glyph_newer l.section l.save) (drop l.depth l.frames) ≡ any_of (glyph_newer l.section l.save) l.frames
