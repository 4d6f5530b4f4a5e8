-- The objects of frames.
use Rattle.std.specs.Prelude.{◌≤◌, List, length, ⊤}
use Rattle.std.specs.List.{AllByRecursion}
use Rattle.ps_kinds.specs.declared.act.Act.{Act}
use Rattle.ps_kinds.specs.declared.act.Act.TheVariants as act
use Rattle.ps_kinds.specs.declared.frame.Frame.{Frame}
use Rattle.ps_kinds.specs.declared.frame.Frame.TheVariants as frame
use Rattle.ps_kinds.specs.declared.frame.Pair.{Pair}
use Rattle.ps_kinds.specs.declared.show.ShowForm.{ShowForm}
use Rattle.ps_kinds.specs.declared.show.ShowForm.TheVariants as form
use Rattle.ps_meaning.specs.Fits.{Shapes, FitsObject, FitsKey}

-- a pair that `forall` has still to give
abbrev pub FitsPair : Shapes → Pair → Type 0
FitsPair K p = FitsKey K p.key × FitsObject K p.value

-- the procedure of `kshow`
abbrev pub FitsForm : Shapes → ShowForm → Type 0
FitsForm K (form.Kshow procedure) = FitsObject K procedure
FitsForm K _ = ⊤

-- the objects of a frame; the place in a string's bytes is within them
abbrev pub FitsFrame : Shapes → Frame → Type 0
FitsFrame K (frame.Proc body at) = FitsObject K body
FitsFrame K (frame.Text string bytes place) = FitsObject K string × (place ≤ length bytes)
FitsFrame K (frame.For body next increment limit whole) = FitsObject K body
FitsFrame K (frame.Repeat body left) = FitsObject K body
FitsFrame K (frame.Loop body) = FitsObject K body
FitsFrame K (frame.Items array at body) = FitsObject K array × FitsObject K body
FitsFrame K (frame.Bytes string at body) = FitsObject K string × FitsObject K body
FitsFrame K (frame.Pairs pairs at body) = AllByRecursion (FitsPair K) pairs × FitsObject K body
FitsFrame K frame.Stopped = ⊤
FitsFrame K (frame.Show run) = FitsObject K run.string × FitsForm K run.form
FitsFrame K (frame.Image run) = FitsObject K run.procedure
FitsFrame K (frame.Walk walk) = FitsObject K walk.move_to × FitsObject K walk.line_to × FitsObject K walk.curve_to × FitsObject K walk.close_path

-- all frames
abbrev pub FitFrames : Shapes → List Frame → Type 0
FitFrames K = AllByRecursion (FitsFrame K)

-- the frame that an act begins
abbrev pub FitsAct : Shapes → Act → Type 0
FitsAct K (act.Body f) = FitsFrame K f
FitsAct K _ = ⊤
