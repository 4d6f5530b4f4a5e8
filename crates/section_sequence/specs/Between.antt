-- What holds between the sections of a job.
use Rattle.std.specs.Prelude.{◌≡◌, ℕ, suc, ◌≤◌, List, [], ◌∷◌, ◌++◌, ⊤}
use Rattle.ps_objects.specs.declared.section.SectionKind.{SectionKind}
use Rattle.ps_objects.specs.declared.settings.Settings.{Settings}
use Rattle.ps_kinds.specs.declared.regs.Regs.{Regs}
use Rattle.ps_memory.specs.Memory.{Memory}
use Rattle.ps_memory.specs.Tree.{result, after}
use Rattle.ps_meaning.specs.Start.{start_memory, start_registers}
use Rattle.ps_execution.specs.Lawful.{LawfulTable}
use Rattle.ps_execution.specs.Section.{section_meaning}
use Rattle.ps_execution.specs.Table.{Program}
use Rattle.ps_machine.specs.Starting.{MayRun}
use Rattle.dsc_split.specs.Sections.{sections_of}
use Rattle.dsc_split.specs.declared.section.Section.{Section}
use Rattle.section_sequence.specs.Sequence.{Job, Progress, sequence_from, sequence_meaning}

-- before the first section, it may run
abbrev pub StartsLaw : Type 0
StartsLaw = (s : Settings) → MayRun 1 (start_registers s) (start_memory s)

-- and however it ends, the next one may run on what it leaves
abbrev pub EndsLaw : Type 0
EndsLaw = (P : Program) → LawfulTable P.table → (settings : Settings) (moment n : ℕ) (kind : SectionKind) (R : Regs) (M : Memory) →
    1 ≤ n → MayRun n R M →
    let t = section_meaning P settings moment n kind R in MayRun (suc n) (result t M).regs (after t M)

-- sections with rising numbers, from n on
abbrev pub AreInOrder : ℕ → List Section → Type 0
AreInOrder n [] = ⊤
AreInOrder n (x ∷ xs) = (n ≤ x.number) × AreInOrder (suc x.number) xs

-- as those of every job are
abbrev pub InOrderLaw : Type 0
InOrderLaw = (job : List ℕ) → AreInOrder 1 (sections_of job)

-- so each of some sections in order may run where those before it have come to
abbrev pub SequenceLaw : Type 0
SequenceLaw = (J : Job) → LawfulTable J.table → (n : ℕ) (before later : List Section) (x : Section) (p : Progress) →
    1 ≤ n → AreInOrder n (before ++ x ∷ later) → MayRun n p.regs p.memory →
    let q = sequence_from J before p in (1 ≤ x.number) × MayRun x.number q.regs q.memory

-- and each section of a job, from the start on
abbrev pub JobLaw : Type 0
JobLaw = (J : Job) → LawfulTable J.table → (before later : List Section) (x : Section) →
    sections_of J.bytes ≡ before ++ x ∷ later →
    let q = sequence_meaning J before in (1 ≤ x.number) × MayRun x.number q.regs q.memory
