-- Sections with rising numbers, one after the other.
use Rattle.std.proofs.Common.{◌≡◌, ℕ, suc, ◌≤◌, ◌<◌, ◌+◌, List, [], ◌∷◌, ◌++◌, length, sym, ◌∙◌, subst, arith}
use Rattle.std.specs.List.{slice_index_or}
use Rattle.ps_meaning.specs.Start.{start_memory, start_registers}
use Rattle.ps_execution.specs.Lawful.{LawfulTable}
use Rattle.ps_execution.specs.Section.{End, Through, Stopped, Quitted, OutOfTurns}
use Rattle.dsc_split.specs.Sections.{sections_of, text_of}
use Rattle.dsc_split.specs.declared.section.Section.{Section}
use Rattle.dsc_split.proofs.Laws.{numbered}
use Rattle.ps_machine.specs.Starting.{MayRun}
use Rattle.section_sequence.specs.Between.{AreInOrder, InOrderLaw, SequenceLaw, JobLaw}
use Rattle.section_sequence.specs.Sequence.{Job, Progress, section_run, after_end, sequence_from, begun}
use Rattle.section_sequence.proofs.Sections.{starts_law, ends_law, later_may}

in_order : (n : ℕ) (xs : List Section) → ((k : ℕ) (other : Section) → k < length xs → (slice_index_or xs k other).number ≡ k + n) → AreInOrder n xs
in_order n [] h = tt
in_order n (x ∷ xs) h =
    let e : x.number ≡ n = h 0 x (omega arith) ∙ omega arith in
    (omega (arith, e), subst (λ m. AreInOrder (suc m) xs) (sym e) (in_order (suc n) xs (λ k other l. h (suc k) other (omega (arith, l)) ∙ omega arith)))

pub in_order_law : InOrderLaw
in_order_law job = in_order 1 (sections_of job) (numbered job)

module _ (J : Job) (T : LawfulTable J.table) where
  -- a section more, whose number is n or greater
  pub one_more : (n : ℕ) (e : End) (x : Section) (p : Progress) → 1 ≤ n → n ≤ x.number → MayRun n p.regs p.memory
      → let q = after_end e (section_run J x p.regs) p in MayRun (suc x.number) q.regs q.memory
  one_more n Through x p l g m =
      ends_law (record { table = J.table; text = text_of J.bytes x }) T J.settings J.moment x.number x.kind p.regs p.memory (omega (arith, l, g)) (later_may x.number n p.regs p.memory g m)
  one_more n Stopped x p l g m = later_may (suc x.number) n p.regs p.memory (omega (arith, g)) m
  one_more n Quitted x p l g m = later_may (suc x.number) n p.regs p.memory (omega (arith, g)) m
  one_more n OutOfTurns x p l g m = later_may (suc x.number) n p.regs p.memory (omega (arith, g)) m

  pub may_run : (n : ℕ) (before later : List Section) (x : Section) (p : Progress) → 1 ≤ n → AreInOrder n (before ++ x ∷ later) → MayRun n p.regs p.memory
      → let q = sequence_from J before p in (1 ≤ x.number) × MayRun x.number q.regs q.memory
  may_run n [] later x p l o m = (omega (arith, l, o.0), later_may x.number n p.regs p.memory o.0 m)
  may_run n (y ∷ ys) later x p l o m = may_run (suc y.number) ys later x (after_end p.end (section_run J y p.regs) p) (omega arith) o.1 (one_more n p.end y p l o.0 m)

pub sequence_law : SequenceLaw
sequence_law J T n before later x p l o m = may_run J T n before later x p l o m

pub job_law : JobLaw
job_law J T before later x e =
    may_run J T 1 before later x (begun (start_registers J.settings) (start_memory J.settings)) (omega arith) (subst (AreInOrder 1) e (in_order_law J.bytes)) (starts_law J.settings)
