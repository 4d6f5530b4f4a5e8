-- What the sections of a job come to.
use Rattle.std.specs.Prelude.{ℕ, List}
use Rattle.ps_objects.specs.declared.settings.Settings.{Settings}
use Rattle.ps_meaning.specs.Registers.{SoundState}
use Rattle.ps_execution.specs.Lawful.{LawfulTable}
use Rattle.ps_execution.specs.Table.{Table}
use Rattle.dsc_split.specs.Sections.{sections_of}
use Rattle.section_sequence.specs.Sequence.{Progress, job_of, sequence_meaning}
use Rattle.section_sequence.specs.declared.running.JobInput.{JobInput}

-- the sections of a job in sequence, from the start of these settings
abbrev pub progress_of : Table → Settings → ℕ → List ℕ → Progress
progress_of T settings moment job = sequence_meaning (job_of T settings moment job) (sections_of job)

-- the same of a job that runs from such an input
abbrev pub progress_by : Table → JobInput → Progress
progress_by T j = progress_of T j.settings.now j.moment j.text.now

-- over a lawful table they leave a sound state
abbrev pub LeftLaw : Type 0
LeftLaw = (T : Table) → LawfulTable T → (settings : Settings) (moment : ℕ) (job : List ℕ) →
    let p = progress_of T settings moment job in SoundState p.regs p.memory
