-- States that fit, and sound states of a section that runs.
use Rattle.std.specs.Prelude.{◌≡◌, ℕ, ◌≤◌, ◌^◌, List, length}
use Rattle.ps_kinds.specs.declared.state.State.{State}
use Rattle.ps_memory.specs.Memory.{Memory}
use Rattle.ps_meaning.specs.Budgets.{IsInBudget}
use Rattle.ps_meaning.specs.Sound.{World, StartStands, SoundMemory}
use Rattle.ps_meaning.specs.Registers.{SoundRegisters, world_of}
use Rattle.ps_meaning.specs.FramesFit.{FitFrames}
use Rattle.ps_meaning.specs.Ahead.{IsAhead}

-- a state that fits memories of a world
pub record FitsWorld (W : World) (s : State) : Type 0 where
  pub registers : SoundRegisters W s.regs
  pub frames : FitFrames W.shapes s.frames
  pub ahead : IsAhead W s.count
  pub budget : IsInBudget s
  pub section : W.section ≡ s.section

-- the place in the section's text is within it
abbrev pub IsInText : List ℕ → State → Type 0
IsInText text s = s.place ≤ length text

-- a state of a section with this text that fits a world in which the start cells stand
pub record Fits (text : List ℕ) (W : World) (s : State) : Type 0 where
  pub state : FitsWorld W s
  pub start : StartStands W.shapes
  pub within : IsInText text s

-- A sound state: registers, frames and memory fit each other, no name is taken yet from the count on, and nothing is over its
-- budget. The count leaves room, since a turn takes at most four names beside one for each unit.
pub record Ready (s : State) (M : Memory) : Type 0 where
  pub state : FitsWorld (world_of s.section M) s
  pub memory : SoundMemory (world_of s.section M) M
  pub count : s.count ≤ 2 ^ 31

-- the same in a section with this text, for what reads it
pub record ReadyIn (text : List ℕ) (s : State) (M : Memory) : Type 0 where
  pub ready : Ready s M
  pub within : IsInText text s
