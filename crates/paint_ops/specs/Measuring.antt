-- Whether a string is only measured, by `stringwidth` (section 8.2 of the language manual).
use Rattle.std.specs.Prelude.{Bool, true, false, List}
use Rattle.ps_kinds.specs.declared.frame.Frame.{Frame}
use Rattle.ps_kinds.specs.declared.frame.Frame.TheVariants as frame
use Rattle.ps_kinds.specs.declared.show.ShowForm.{ShowForm}
use Rattle.ps_kinds.specs.declared.show.ShowForm.TheVariants as form
use Rattle.ps_operator.specs.Registers.{any_of}

-- of the operators that show a string, `stringwidth`
abbrev pub is_stringwidth : ShowForm → Bool
is_stringwidth (form.Stringwidth sum) = true
is_stringwidth _ = false

-- a frame that measures a string
abbrev pub measures : Frame → Bool
measures (frame.Show run) = is_stringwidth run.form
measures _ = false

-- a string is measured, however far out
abbrev pub is_measured : List Frame → Bool
is_measured frames = any_of measures frames
