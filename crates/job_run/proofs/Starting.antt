-- The sections of a job run from the start, and come to its progress.
use Rattle.std.proofs.Common.{◌≡◌, ℕ, List, ap, sym, ◌∙◌, subst}
use Rattle.ps_objects.specs.declared.settings.Settings.{Settings}
use Rattle.ps_kinds.specs.declared.regs.Regs.{Regs}
use Rattle.ps_memory.specs.Memory.{Memory}
use Rattle.ps_meaning.specs.Start.{start_memory, start_registers}
use Rattle.ps_execution.specs.Table.{Table}
use Rattle.dsc_split.specs.Sections.{sections_of}
use Rattle.dsc_split.specs.declared.section.Section.{Section}
use Rattle.section_sequence.specs.Running.{MayRunAll, sections_from}
use Rattle.section_sequence.proofs.Standing.{job_may_run}
use Rattle.job_run.specs.Sequence.{progress_of}

module _ (s : Settings) (job : List ℕ) (xs : List Section) (R : Regs) (M : Memory) (x : xs ≡ sections_of job) (r : R ≡ start_registers s) (m : M ≡ start_memory s) where
  -- they may run
  pub may_run : MayRunAll xs R M
  may_run =
      subst (λ N. MayRunAll xs R N) (sym m) (subst (λ Q. MayRunAll xs Q (start_memory s)) (sym r) (subst (λ ys. MayRunAll ys (start_registers s) (start_memory s)) (sym x) (job_may_run s job)))

  -- and what they come to is the job's progress
  pub same_progress : (T : Table) (moment : ℕ) → sections_from T s moment job xs R M ≡ progress_of T s moment job
  same_progress T moment =
      ap (λ N. sections_from T s moment job xs R N) m
      ∙ ap (λ Q. sections_from T s moment job xs Q (start_memory s)) r
      ∙ ap (λ ys. sections_from T s moment job ys (start_registers s) (start_memory s)) x
