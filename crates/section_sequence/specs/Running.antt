-- Sections that run in code.
use Rattle.std.specs.Prelude.{◌≡◌, ℕ, ◌≤◌, List, length, Result, Ok, Err}
use Rattle.ps_kinds.specs.declared.regs.Regs.{Regs}
use Rattle.ps_memory.specs.Memory.{Memory}
use Rattle.ps_execution.specs.Section.{End}
use Rattle.dsc_split.specs.declared.section.Section.{Section}
use Rattle.ps_machine.specs.Starting.{MayRun}
use Rattle.section_sequence.specs.Between.{AreInOrder}
use Rattle.section_sequence.specs.Counting.{Writing}
use Rattle.ps_objects.specs.declared.settings.Settings.{Settings}
use Rattle.ps_execution.specs.Table.{Table}
use Rattle.section_sequence.specs.Sequence.{Job, job_of, Progress, stood, begun, section_run, after_end, sequence_from}
use Rattle.ps_machine.specs.Sections.{end_in}
use Rattle.ps_machine.specs.declared.refusal.RunRefusal.{RunRefusal}
use Rattle.ps_machine.specs.declared.section.Ran.{Ran}
use Rattle.section_sequence.specs.declared.running.Finished.{Finished}
use Rattle.section_sequence.specs.declared.running.JobInput.{JobInput}

-- registers, end and memory are those of the progress, and an outlet was given its papers and its text
pub record Reaches {O : Type 0} (since : Writing O) (p : Progress) (ran : Ran) (M : Memory) (new old : O) : Type 0 where
  pub regs : ran.regs ≡ p.regs
  pub end : ran.end ≡ end_in p.end
  pub memory : M ≡ p.memory
  pub written : since new old p.papers p.text

-- an outlet was given a front of its papers and of its text
abbrev pub CutOff : {O : Type 0} → Writing O → Progress → O → O → Type 0
CutOff cut p new old = cut new old p.papers p.text

-- a run reaches the progress, or is refused after a front of its outputs
abbrev pub GoesOn : {O : Type 0} → Writing O → Writing O → Progress → Result Ran RunRefusal → Memory → O → O → Type 0
GoesOn since cut p (Ok ran) M new old = Reaches since p ran M new old
GoesOn since cut p (Err e) M new old = CutOff cut p new old

-- a section from registers and a memory that such an end has left
abbrev pub one_more : Job → Section → Regs → Memory → End → Progress
one_more J x R M e = after_end e (section_run J x R) (stood R M e)

-- the same with the number of the papers
pub record Finishes {O : Type 0} (since : Writing O) (p : Progress) (done : Finished) (M : Memory) (new old : O) : Type 0 where
  pub regs : done.regs ≡ p.regs
  pub end : done.end ≡ end_in p.end
  pub memory : M ≡ p.memory
  pub shown : done.shown ≡ length p.papers
  pub written : since new old p.papers p.text

-- what some sections of a job come to, from these registers and this memory
abbrev pub sections_from : Table → Settings → ℕ → List ℕ → List Section → Regs → Memory → Progress
sections_from T settings moment job xs R M = sequence_from (job_of T settings moment job) xs (begun R M)

-- a job that runs from such an input, over a table
abbrev pub job_by : Table → JobInput → Job
job_by T j = job_of T j.settings.now j.moment j.text.now

-- what some of its sections come to, from these registers and this memory
abbrev pub sections_by : Table → JobInput → List Section → Regs → Memory → Progress
sections_by T j xs R M = sections_from T j.settings.now j.moment j.text.now xs R M

-- sections that are in order, the first of which may run
pub record MayRunAll (xs : List Section) (R : Regs) (M : Memory) : Type 0 where
  pub number : ℕ
  pub positive : 1 ≤ number
  pub order : AreInOrder number xs
  pub first : MayRun number R M
