-- What the run of a job in code comes to.
use Rattle.std.specs.Prelude.{◌≡◌, ℕ, ◌<◌, ◌≤◌, ◌⊎◌, List, length, Option, Result, Ok, Err}
use Rattle.rip_ports.specs.Ports.{Appends, AppendsFront}
use Rattle.ps_memory.specs.Memory.{Memory}
use Rattle.dsc_split.specs.Sections.{page_count, sections_of}
use Rattle.dsc_split.specs.declared.cutter.TheConstants.{MAX_PAGES}
use Rattle.out_writers.specs.Texts.{pictures}
use Rattle.ps_machine.specs.Sections.{end_in}
use Rattle.section_sequence.specs.Sequence.{Progress}
use Rattle.job_run.specs.declared.job.Final.{Final}
use Rattle.job_run.specs.declared.job.JobFault.{JobFault}
use Rattle.job_run.specs.declared.job.JobFault.TheVariants as fault

-- registers, memory, end and the number of pages shown are those of the progress
pub record Leaves {M : Type 0} (view : M → Memory) (p : Progress) (left : Final M) : Type 0 where
  pub regs : left.regs ≡ p.regs
  pub memory : view left.mem ≡ p.memory
  pub end : left.end ≡ end_in p.end
  pub shown : left.shown ≡ length p.papers

-- What a run of a job has come to, and has given to two sinks: all of its pictures and of its text; nothing where the job has more than
-- 100,000 pages; else a front of each, which where memory ran out may be nothing of a job that has too many.
abbrev pub RunsJob : {M : Type 0} (view : M → Memory) (p : Progress) (job : List ℕ) → Result (Final M) JobFault → (pages_before pages_after back_before back_after : Option (List ℕ)) → Type 0
RunsJob view p job (Ok left) pages_before pages_after back_before back_after =
    (page_count (sections_of job) ≤ MAX_PAGES) × Leaves view p left × Appends (pictures p.papers) pages_before pages_after × Appends p.text back_before back_after
RunsJob view p job (Err (fault.TooManyPages count)) pages_before pages_after back_before back_after =
    (count ≡ page_count (sections_of job)) × (MAX_PAGES < count) × (pages_after ≡ pages_before) × (back_after ≡ back_before)
RunsJob view p job (Err fault.WriteFault) pages_before pages_after back_before back_after =
    (page_count (sections_of job) ≤ MAX_PAGES) × AppendsFront (pictures p.papers) pages_before pages_after × AppendsFront p.text back_before back_after
RunsJob view p job (Err fault.NoMemory) pages_before pages_after back_before back_after =
    ((pages_after ≡ pages_before) × (back_after ≡ back_before))
    ⊎ ((page_count (sections_of job) ≤ MAX_PAGES) × AppendsFront (pictures p.papers) pages_before pages_after × AppendsFront p.text back_before back_after)
