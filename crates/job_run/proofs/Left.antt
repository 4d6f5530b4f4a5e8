-- What the sections of a job leave.
use Rattle.std.proofs.Common.{ℕ, suc, ◌≤◌, List, [], ◌∷◌, arith}
use Rattle.ps_meaning.specs.Registers.{SoundState}
use Rattle.ps_meaning.specs.Start.{start_memory, start_registers}
use Rattle.ps_execution.specs.Lawful.{LawfulTable}
use Rattle.dsc_split.specs.Sections.{sections_of}
use Rattle.dsc_split.specs.declared.section.Section.{Section}
use Rattle.ps_machine.specs.Starting.{MayRun}
use Rattle.section_sequence.specs.Between.{AreInOrder}
use Rattle.section_sequence.specs.Sequence.{Job, Progress, job_of, section_run, after_end, sequence_from, begun}
use Rattle.section_sequence.proofs.Numbers.{in_order_law, one_more}
use Rattle.section_sequence.proofs.Sections.{starts_law}
use Rattle.job_run.specs.Sequence.{LeftLaw}

module _ (J : Job) (T : LawfulTable J.table) where
  -- sections in order leave a sound state
  left_from : (n : ℕ) (xs : List Section) (p : Progress) → 1 ≤ n → AreInOrder n xs → MayRun n p.regs p.memory
      → let q = sequence_from J xs p in SoundState q.regs q.memory
  left_from n [] p l o m = m.sound
  left_from n (x ∷ xs) p l o m = left_from (suc x.number) xs (after_end p.end (section_run J x p.regs) p) (omega arith) o.1 (one_more J T n p.end x p l o.0 m)

pub left : LeftLaw
left T lawful settings moment job =
    left_from (job_of T settings moment job) lawful 1 (sections_of job) (begun (start_registers settings) (start_memory settings)) (omega arith) (in_order_law job) (starts_law settings)
