-- What a function owes that runs a section.
use Rattle.std.specs.Prelude.{◌≡◌, ℕ, List, Option, Some, None, option_map}
use Rattle.ps_shapes.specs.Sheet.{Sheet}
use Rattle.ps_objects.specs.declared.section.SectionKind.{SectionKind}
use Rattle.ps_objects.specs.declared.settings.Settings.{Settings}
use Rattle.ps_kinds.specs.declared.regs.Regs.{Regs}
use Rattle.ps_memory.specs.Memory.{Memory, Output}
use Rattle.ps_memory.specs.Track.{track_on}
use Rattle.ps_memory.specs.Tree.{Tree, result, after}
use Rattle.ps_meaning.specs.Answer.{Log}
use Rattle.ps_execution.specs.Reached.{reached, came, outer_for}
use Rattle.ps_execution.specs.Section.{End, Through, Stopped, Quitted, OutOfTurns, SectionResult, section_meaning}
use Rattle.ps_execution.specs.Table.{Table}
use Rattle.ps_steps.specs.Next.{program}
use Rattle.ps_machine.specs.Lines.{papers_of}
use Rattle.ps_machine.specs.Runs.{told}
use Rattle.ps_machine.specs.SectionText.{end_text, section_text}
use Rattle.ps_machine.specs.declared.ending.Closing.{Closing}
use Rattle.ps_machine.specs.declared.section.Ran.{Ran}
use Rattle.ps_machine.specs.declared.section.SectionEnd.{SectionEnd}
use Rattle.ps_machine.specs.declared.section.SectionEnd.TheVariants as end
use Rattle.ps_machine.specs.declared.section.SectionInput.{SectionInput}

-- a section with this text, over a table
abbrev pub section_of : Table → List ℕ → Settings → ℕ → ℕ → SectionKind → Regs → Tree SectionResult
section_of T text settings moment number kind regs = section_meaning (program T text) settings moment number kind regs

-- a section that runs from such an input
abbrev pub section_by : Table → SectionInput → Regs → Tree SectionResult
section_by T i R = section_of T i.text.now i.settings.now i.moment i.number i.kind R

-- an end, as the machine tells it
abbrev pub end_in : End → SectionEnd
end_in Through = end.Through
end_in Stopped = end.Stopped
end_in Quitted = end.Quit
end_in OutOfTurns = end.Spent

-- The end of a section comes to its result, and gives nothing out; how it has ended and what is said of it are those of the result.
pub record Closes (t : Tree SectionResult) (old : Log) (c : Closing) (new : Log) : Type 0 where
  pub comes : (out : List Output) → reached t old out ≡ came (result t old.view) new out
  pub end : c.end ≡ end_in (result t old.view).end
  pub text : c.text ≡ end_text (result t old.view)

-- all that a section gives out on a memory: its papers, and its text with what is said of its end
abbrev pub Wrote : {O : Type 0} → (O → O → List Sheet → List ℕ → Type 0) → O → O → Tree SectionResult → Memory → Type 0
Wrote since new old t M = since new old (papers_of (told t M)) (section_text (result t M) (told t M))

-- A section ran from a log on to its end, without an outer restore: its end and its registers, its memory and, where the memory tells it,
-- its track, and all that it gives out.
pub record RanToEnd {O : Type 0} (since : O → O → List Sheet → List ℕ → Type 0) (t : Tree SectionResult) (old : Log) (ran : Ran) (there : Log) (new out : O) : Type 0 where
  pub inner : outer_for t old.view old.track ≡ None
  pub end : ran.end ≡ end_in (result t old.view).end
  pub regs : ran.regs ≡ (result t old.view).regs
  pub log : there ≡ record { view = after t old.view; track = option_map (track_on t old.view) old.track }
  pub wrote : Wrote since new out t old.view

-- it ran to its end, or to its first outer restore
abbrev pub RanSo : {O : Type 0} → (O → O → List Sheet → List ℕ → Type 0) → Tree SectionResult → Log → SectionEnd → Ran → Log → O → O → Type 0
RanSo since t old (end.Outer q) ran log new out = outer_for t old.view old.track ≡ Some q
RanSo since t old e ran log new out = RanToEnd since t old ran log new out

-- what a section comes to that ran
abbrev pub RanTo : {O : Type 0} → (O → O → List Sheet → List ℕ → Type 0) → Tree SectionResult → Log → Ran → Log → O → O → Type 0
RanTo since t old ran log new out = RanSo since t old ran.end ran log new out
