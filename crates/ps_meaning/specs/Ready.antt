-- What executing relies on, and what it leaves: a state that fits a sound memory.
pub use Rattle.ps_meaning.specs.FramesFit.{FitsPair, FitsForm, FitsFrame, FitFrames, FitsAct}
pub use Rattle.ps_meaning.specs.Ahead.{IsMadeBefore, Fall, IsAhead}
pub use Rattle.ps_meaning.specs.States.{FitsWorld, IsInText, Fits, Ready, ReadyIn}
