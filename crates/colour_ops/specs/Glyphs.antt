-- Whether a glyph is to be kept as a mask, so that it has no colour of its own (section 5.7 of the language manual).
use Rattle.std.specs.Prelude.{Bool, false, List, if◌then◌else◌, Result, Ok, Err}
use Rattle.ps_names.specs.declared.error_name.ErrorName.{ErrorName}
use Rattle.ps_names.specs.declared.error_name.ErrorName.TheVariants.{Undefined}
use Rattle.ps_kinds.specs.declared.frame.Frame.{Frame}
use Rattle.ps_kinds.specs.declared.frame.Frame.TheVariants as frame
use Rattle.ps_kinds.specs.declared.show.ShowPhase.{ShowPhase}
use Rattle.ps_kinds.specs.declared.show.ShowPhase.TheVariants as phase
use Rattle.ps_operator.specs.Registers.{any_of}

-- a glyph runs that has called `setcachedevice`
abbrev pub runs_mask : ShowPhase → Bool
runs_mask (phase.Running glyph) = glyph.cached
runs_mask _ = false

-- the same of a frame
abbrev pub shows_mask : Frame → Bool
shows_mask (frame.Show run) = runs_mask run.phase
shows_mask _ = false

-- colours and screens may be set: no such glyph runs, however far out; else undefined
abbrev pub settable : List Frame → Result (Unit {0}) ErrorName
settable frames = if any_of shows_mask frames then Err Undefined else Ok tt
