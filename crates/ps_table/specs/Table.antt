-- What each operator and each step of a table says, for the table to be lawful.
use Rattle.std.specs.Prelude.{◌≡◌, ℕ, false, true, ◌∷◌, List}
use Rattle.ps_kinds.specs.declared.frame.Frame.{Frame}
use Rattle.ps_kinds.specs.declared.frame.Frame.TheVariants as frame
use Rattle.ps_kinds.specs.declared.show.ShowRun.{ShowRun}
use Rattle.ps_kinds.specs.declared.state.State.{State}
use Rattle.ps_meaning.specs.Ready.{Fits}
use Rattle.ps_meaning.specs.Registers.{SoundRegisters}
use Rattle.ps_meaning.specs.Sound.{World}
use Rattle.ps_operator.specs.Tree.{Ask}
use Rattle.ps_operator.specs.Lawful.{Keeps, IsLawfulIn}
use Rattle.ps_execution.specs.Execution.{on, under, stands}
use Rattle.ps_execution.specs.Frames.{costs}
use Rattle.ps_execution.specs.Lawful.{takes_steps, names_in_turn, LawfulTable}
use Rattle.ps_execution.specs.Machine.{IsSteady}
use Rattle.ps_execution.specs.Table.{Table}

-- a step of a frame keeps each state that fits, over the frames below it; one that costs no turn takes no name but for units
abbrev pub IsLawfulStep : Frame → (List ℕ → State → Ask) → Type 0
IsLawfulStep f t = (text : List ℕ) (s : State) (W : World) → Fits text W (on (f ∷ s.frames) s) → Keeps text (names_in_turn (costs f)) s.frames (t text (on (f ∷ s.frames) s)) (on (f ∷ s.frames) s) W

-- Each operator and each step is lawful, and leaving a show gives back registers that are sound.
pub record KeptTable (T : Table) : Type 0 where
  pub steady : IsSteady T
  pub run : (n : ℕ) → IsLawfulIn (T.run n)
  pub step : (f : Frame) → takes_steps f ≡ true → IsLawfulStep f (T.step f)
  pub leave : (r : ShowRun) (text : List ℕ) (s : State) (W : World) → Fits text W (under (stands (frame.Show r)) s)
      → SoundRegisters (record W { size = record { width = (T.leave r s).regs.state.wide; height = (T.leave r s).regs.state.high } }) (T.leave r s).regs
      × ((T.leave r s).wipes ≡ false → W.size ≡ record { width = (T.leave r s).regs.state.wide; height = (T.leave r s).regs.state.high })

-- such a table is lawful
abbrev pub KeptTableLaw : Type 0
KeptTableLaw = (T : Table) → KeptTable T → LawfulTable T
