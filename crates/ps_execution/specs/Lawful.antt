-- What a table owes for its memory and its states to stay sound, and what the machine keeps.
use Rattle.std.specs.Prelude.{◌≡◌, ◌≢◌, None, ℕ, ◌+◌, ◌*◌, ◌≤◌, Bool, true, false, List, length, ⊤}
use Rattle.ps_objects.specs.declared.cell.Cell.{Cell}
use Rattle.ps_kinds.specs.declared.frame.Frame.{Frame}
use Rattle.ps_kinds.specs.declared.frame.Frame.TheVariants as frame
use Rattle.ps_kinds.specs.declared.show.ShowRun.{ShowRun}
use Rattle.ps_kinds.specs.declared.state.State.{State}
use Rattle.ps_memory.specs.Memory.{Memory}
use Rattle.ps_meaning.specs.Fits.{FitsObject}
use Rattle.ps_meaning.specs.Registers.{SoundRegisters, world_of}
use Rattle.ps_meaning.specs.Sound.{World, StartStands, SoundMemory, Lawful}
use Rattle.ps_execution.specs.Frames.{costs}
use Rattle.ps_execution.specs.Execution.{Ending, stands, under, Came, applies, Read, reads}
use Rattle.ps_execution.specs.Gather.{Spelt, object, bad, nothing, gather}
use Rattle.ps_execution.specs.Machine.{IsSteady, Move, goes, raised, ended}
use Rattle.ps_meaning.specs.Ready.{FitFrames, FitsAct, FitsWorld, IsInText, Fits}
use Rattle.ps_execution.specs.Table.{Table}

-- the frames of the table's own steps
abbrev pub takes_steps : Frame → Bool
takes_steps (frame.Proc body i) = false
takes_steps (frame.Text x bytes place) = false
takes_steps (frame.For body next increment limit whole) = true
takes_steps (frame.Repeat body n) = true
takes_steps (frame.Loop body) = true
takes_steps (frame.Items array i body) = true
takes_steps (frame.Bytes string i body) = true
takes_steps (frame.Pairs pairs i body) = true
takes_steps frame.Stopped = true
takes_steps (frame.Show r) = true
takes_steps (frame.Image r) = true
takes_steps (frame.Walk w) = true

-- the names that may be taken in a turn, beside one for each unit
abbrev pub names_in_turn : Bool → ℕ
names_in_turn true = 4
names_in_turn false = 0

-- What comes of an application of a state that fits: a state that fits, and the frames that were begun; at most so many names were taken.
pub record FitsCame (text : List ℕ) (before : State) (n : ℕ) (W : World) (c : Came) : Type 0 where
  pub state : FitsWorld W c.state
  pub start : StartStands W.shapes
  pub frames : FitFrames W.shapes c.frames
  pub act : FitsAct W.shapes c.act
  pub within : IsInText text c.state
  pub paid : c.state.count + before.units ≤ before.count + n + c.state.units

-- each operator, each step and each leaving of a show leaves what fits, and a step that costs no turn begins nothing
pub record LawfulTable (T : Table) : Type 0 where
  pub steady : IsSteady T
  pub run : (n : ℕ) (text : List ℕ) (s : State) (W : World) → Fits text W s → Lawful (applies s.frames (T.run n text s) s) W (FitsCame text s 4)
  pub step : (f : Frame) (text : List ℕ) (s : State) (W : World) → takes_steps f ≡ true → Fits text W (under (stands f) s)
      → Lawful (applies s.frames (T.step f text (under (stands f) s)) (under (stands f) s)) W (FitsCame text s (names_in_turn (costs f)))
  -- what a show leaves fits, and the page's size changes only where its paper is blank
  pub leave : (r : ShowRun) (text : List ℕ) (s : State) (W : World) → Fits text W (under (stands (frame.Show r)) s)
      → SoundRegisters (record W { size = record { width = (T.leave r s).regs.state.wide; height = (T.leave r s).regs.state.high } }) (T.leave r s).regs
      × ((T.leave r s).wipes ≡ false → W.size ≡ record { width = (T.leave r s).regs.state.wide; height = (T.leave r s).regs.state.high })

-- ---- what is read

-- an object that was spelt fits
abbrev pub FitsSpelt : World → Spelt → Type 0
FitsSpelt W (object x) = FitsObject W.shapes x
FitsSpelt W (bad e) = ⊤
FitsSpelt W nothing = ⊤

-- at most one cell, the last, has no unit of its own; at the text's end none was made
abbrev pub unpaid : Spelt → ℕ
unpaid (object x) = 1
unpaid (bad e) = 1
unpaid nothing = 0

-- what reading an object leaves: all that stood stands
pub record FitsRead (text : List ℕ) (before : State) (size : ℕ) (W V : World) (d : Read) : Type 0 where
  pub state : Fits text V d.state
  pub grows : (c : Cell) → W.shapes c ≢ None → V.shapes c ≡ W.shapes c
  pub spelt : FitsSpelt V d.spelt
  pub place : d.place ≤ size
  pub turns : d.state.turns ≡ before.turns
  pub paid : d.state.count + before.units ≤ before.count + unpaid d.spelt + d.state.units

-- reading a text from a place within it is lawful
abbrev pub ReadLaw : Type 0
ReadLaw = (text bytes : List ℕ) (place : ℕ) (s : State) (W : World) → Fits text W s → place ≤ length bytes → Lawful (reads (gather bytes place s) s) W (FitsRead text s (length bytes) W)

-- ---- what the machine keeps

-- Each turn takes at most five names, one of them for the token that it began with, beside one for each unit.
abbrev pub IsPaid : ℕ → State → Type 0
IsPaid n s = s.count ≤ 5 * s.turns + s.units + n

-- a state, and the object of an error, fit, and the names that were taken are paid
abbrev pub FitsMove : List ℕ → World → Move → Type 0
FitsMove text W (goes s) = Fits text W s × IsPaid 0 s
FitsMove text W (raised e x s) = Fits text W s × FitsObject W.shapes x × IsPaid 1 s
FitsMove text W (ended o s) = Fits text W s

-- a state in which a run ended fits
abbrev pub FitsEnding : World → Ending → Type 0
FitsEnding W e = FitsWorld W e.state

-- ---- moves over a memory

-- the state of a move
abbrev pub state_of : Move → State
state_of (goes s) = s
state_of (raised e x s) = s
state_of (ended o s) = s

-- a move whose state fits a sound memory
pub record SoundAt (text : List ℕ) (m : Move) (M : Memory) : Type 0 where
  pub fits : FitsMove text (world_of (state_of m).section M) m
  pub memory : SoundMemory (world_of (state_of m).section M) M
