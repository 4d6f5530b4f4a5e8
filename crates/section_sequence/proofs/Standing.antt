-- What the loop over the sections keeps.
use Rattle.std.proofs.Common.{◌≡◌, ◌≢◌, ℕ, suc, ◌≤◌, ◌+◌, List, [], ◌∷◌, ◌++◌, length, Option, Some, None, Result, Ok, Err, refl, sym, ap, ◌∙◌, subst, append-nil, append_assoc, arith, length-append}
use Rattle.std.specs.Prelude.{IfOk, OnErr}
use Rattle.ps_shapes.specs.Sheet.{Sheet}
use Rattle.ps_objects.specs.declared.settings.Settings.{Settings}
use Rattle.ps_kinds.specs.declared.regs.Regs.{Regs}
use Rattle.ps_memory.specs.Memory.{Memory}
use Rattle.ps_memory.specs.Tree.{Tree}
use Rattle.ps_meaning.specs.Answer.{Log}
use Rattle.ps_execution.specs.Lawful.{LawfulTable}
use Rattle.ps_execution.specs.Reached.{outer_for}
use Rattle.ps_execution.specs.Section.{End, Through, Stopped, Quitted, OutOfTurns, SectionResult}
use Rattle.ps_meaning.specs.Start.{start_memory, start_registers}
use Rattle.dsc_split.specs.Sections.{sections_of, text_of}
use Rattle.dsc_split.specs.declared.section.Section.{Section}
use Rattle.out_writers.specs.Faults.{HasRisen}
use Rattle.ps_machine.specs.Sections.{section_of, end_in, RanToEnd, RanSo, RanTo, Wrote}
use Rattle.ps_machine.specs.Starting.{MayRun}
use Rattle.ps_machine.specs.declared.refusal.RunRefusal.{RunRefusal}
use Rattle.ps_machine.specs.declared.section.Ran.{Ran}
use Rattle.ps_machine.specs.declared.section.SectionEnd.{SectionEnd}
use Rattle.ps_machine.specs.declared.section.SectionEnd.TheVariants as end
use Rattle.section_sequence.specs.Counting.{Writing, CountsAll, CountsFront}
use Rattle.section_sequence.specs.Running.{Reaches, GoesOn, one_more, Finishes, MayRunAll}
use Rattle.section_sequence.specs.Sequence.{Job, Progress, stood, begun, section_run, after_end, sequence_from}
use Rattle.section_sequence.specs.declared.page_counter.PageCounter.{PageCounter}
use Rattle.section_sequence.proofs.Numbers as numbers
use Rattle.section_sequence.proofs.Sections.{starts_law}

-- ---- outputs grow

abbrev with_outputs : Progress → List Sheet → List ℕ → Progress
with_outputs q papers text = record { regs = q.regs; memory = q.memory; papers = papers ++ q.papers; text = text ++ q.text; end = q.end }

-- a section writes the same, whatever was written before
after_joined : (e : End) (t : Tree SectionResult) (R : Regs) (M : Memory) (papers : List Sheet) (text : List ℕ)
    → after_end e t (record { regs = R; memory = M; papers = papers; text = text; end = e }) ≡ with_outputs (after_end e t (stood R M e)) papers text
after_joined Through t R M papers text = refl
after_joined Stopped t R M papers text = λ i. record { regs = R; memory = M; papers = sym (append-nil papers) i; text = sym (append-nil text) i; end = Stopped }
after_joined Quitted t R M papers text = λ i. record { regs = R; memory = M; papers = sym (append-nil papers) i; text = sym (append-nil text) i; end = Quitted }
after_joined OutOfTurns t R M papers text = λ i. record { regs = R; memory = M; papers = sym (append-nil papers) i; text = sym (append-nil text) i; end = OutOfTurns }

record Grown (p q : Progress) : Type 0 where
  more : List Sheet
  rest : List ℕ
  papers : q.papers ≡ p.papers ++ more
  text : q.text ≡ p.text ++ rest

nothing_grown : (p : Progress) → Grown p p
nothing_grown p = record { more = []; rest = []; papers = sym (append-nil p.papers); text = sym (append-nil p.text) }

grown_then : (p q r : Progress) → Grown p q → Grown q r → Grown p r
grown_then p q r a b = record {
  more = a.more ++ b.more;
  rest = a.rest ++ b.rest;
  papers = b.papers ∙ ap (λ s. s ++ b.more) a.papers ∙ append_assoc p.papers a.more b.more;
  text = b.text ∙ ap (λ s. s ++ b.rest) a.text ∙ append_assoc p.text a.rest b.rest;
}

section_grown : (e : End) (t : Tree SectionResult) (p : Progress) → Grown p (after_end e t p)
section_grown Through t p = record { more = _; rest = _; papers = refl; text = refl }
section_grown Stopped t p = nothing_grown p
section_grown Quitted t p = nothing_grown p
section_grown OutOfTurns t p = nothing_grown p

grown : (J : Job) (xs : List Section) (p : Progress) → Grown p (sequence_from J xs p)
grown J [] p = nothing_grown p
grown J (x ∷ xs) p =
    let q = after_end p.end (section_run J x p.regs) p in
    grown_then p q (sequence_from J xs q) (section_grown p.end (section_run J x p.regs) p) (grown J xs q)

-- ---- the loop

-- The sections so far have come to these outputs and this end, and those that are left lead to the whole.
pub record Stands {O : Type 0} (since : Writing O) (J : Job) (whole : Progress) (left : List Section) (ran : Ran) (M : Memory) (counter : PageCounter O) (start : O) : Type 0 where
  pub papers : List Sheet
  pub text : List ℕ
  pub end : End
  pub leads : sequence_from J left (record { regs = ran.regs; memory = M; papers = papers; text = text; end = end }) ≡ whole
  pub ends : ran.end ≡ end_in end
  pub shown : counter.shown ≡ length papers
  pub written : since counter.out.now start papers text
  pub may_run : MayRunAll left ran.regs M

pub stands_first : {O : Type 0} (since : Writing O) → ((o : O) → since o o [] []) → (J : Job) (xs : List Section) (ran : Ran) (M : Memory) (counter : PageCounter O) (start : O)
    → ran.end ≡ end_in Through → counter.shown ≡ 0 → counter.out.now ≡ start → MayRunAll xs ran.regs M
    → Stands since J (sequence_from J xs (begun ran.regs M)) xs ran M counter start
stands_first since none J xs ran M counter start e z o m = record {
  papers = [];
  text = [];
  end = Through;
  leads = refl;
  ends = e;
  shown = z;
  written = subst (λ n. since n start [] []) (sym o) (none start);
  may_run = m;
}

module _ {O : Type 0} (since cut : Writing O) (J : Job) (T : LawfulTable J.table) (whole : Progress) (start : O) (x : Section) (xs : List Section) (ran : Ran) (M : Memory) (counter : PageCounter O) (s : Stands since J whole (x ∷ xs) ran M counter start) where
  abbrev q : Progress
  q = one_more J x ran.regs M s.end

  leads_on : sequence_from J xs (with_outputs q s.papers s.text) ≡ whole
  leads_on = ap (sequence_from J xs) (sym (after_joined s.end (section_run J x ran.regs) ran.regs M s.papers s.text)) ∙ s.leads

  pub first_may : (1 ≤ x.number) × MayRun x.number ran.regs M
  first_may = numbers.may_run J T s.may_run.number [] xs x (stood ran.regs M s.end) s.may_run.positive s.may_run.order s.may_run.first

  pub stands_on : ((n m o : O) (papers more : List Sheet) (text rest : List ℕ) → since m o papers text → since n m more rest → since n o (papers ++ more) (text ++ rest))
      → (later : Ran) (N : Memory) (new : PageCounter O) → Reaches (CountsAll since) q later N new counter → Stands since J whole xs later N new start
  stands_on both later N new r = record {
    papers = s.papers ++ q.papers;
    text = s.text ++ q.text;
    end = q.end;
    leads = ap (sequence_from J xs) (λ i. record { regs = r.regs i; memory = r.memory i; papers = s.papers ++ q.papers; text = s.text ++ q.text; end = q.end }) ∙ leads_on;
    ends = r.end;
    shown = r.written.shown ∙ ap (λ n. n + length q.papers) s.shown ∙ sym (length-append s.papers q.papers);
    written = both new.out.now counter.out.now start s.papers q.papers s.text q.text s.written r.written.written;
    may_run = record {
      number = suc x.number;
      positive = omega arith;
      order = s.may_run.order.1;
      first = subst (λ R. MayRun (suc x.number) R N) (sym r.regs) (subst (λ K. MayRun (suc x.number) q.regs K) (sym r.memory)
          (numbers.one_more J T s.may_run.number s.end x (stood ran.regs M s.end) s.may_run.positive s.may_run.order.0 s.may_run.first));
    };
  }

  pub cut_off : ((n m o : O) (papers more : List Sheet) (text rest : List ℕ) → since m o papers text → cut n m more rest → cut n o (papers ++ more) (text ++ rest))
      → ((n o : O) (papers more : List Sheet) (text rest : List ℕ) → cut n o papers text → cut n o (papers ++ more) (text ++ rest))
      → (new : PageCounter O) → CountsFront cut new counter q.papers q.text → cut new.out.now start whole.papers whole.text
  cut_off both longer new r =
      let p = with_outputs q s.papers s.text in
      let g = grown J xs p in
      let c : cut new.out.now start (p.papers ++ g.more) (p.text ++ g.rest) =
      longer new.out.now start p.papers g.more p.text g.rest (both new.out.now counter.out.now start s.papers q.papers s.text q.text s.written r.written) in
      let a : p.papers ++ g.more ≡ whole.papers = sym g.papers ∙ ap (λ (w : Progress). w.papers) leads_on in
      let b : p.text ++ g.rest ≡ whole.text = sym g.text ∙ ap (λ (w : Progress). w.text) leads_on in
      subst (λ t. cut new.out.now start whole.papers t) b (subst (λ l. cut new.out.now start l (p.text ++ g.rest)) a c)

-- at the end
pub finishes : {O : Type 0} (since : Writing O) (J : Job) (whole : Progress) (ran : Ran) (M : Memory) (counter : PageCounter O) (start : O)
    → (s : Stands since J whole [] ran M counter start) → Finishes since whole (record { regs = ran.regs; end = ran.end; shown = counter.shown }) M counter.out.now start
finishes since J whole ran M counter start s = subst (λ w. Finishes since w (record { regs = ran.regs; end = ran.end; shown = counter.shown }) M counter.out.now start) s.leads
    (record { regs = refl; end = s.ends; memory = refl; shown = s.shown; written = s.written })

pub risen_since : (a b c : ℕ) → a ≤ b → HasRisen b c → HasRisen a c
risen_since a b c h r = grind arith

-- what holds anyway holds after a refusal
pub refused : {A E : Type 0} (r : Result A E) (P : Type 0) → P → OnErr r P
refused (Ok x) P p = tt
refused (Err e) P p = p

-- the sections of a job may run from the start on
pub job_may_run : (s : Settings) (job : List ℕ) → MayRunAll (sections_of job) (start_registers s) (start_memory s)
job_may_run s job = record { number = 1; positive = omega arith; order = numbers.in_order_law job; first = starts_law s }

-- after an end other than Through a section changes nothing
pub stays_ended : {O : Type 0} (since : Writing O) → ((o : O) → since o o [] []) → (J : Job) (x : Section) (ran : Ran) (M : Memory) (o : O)
    → ran.end ≢ end_in Through → (e : End) → ran.end ≡ end_in e → Reaches since (one_more J x ran.regs M e) ran M o o
stays_ended since none J x ran M o n Through h = absurd (n h)
stays_ended since none J x ran M o n Stopped h = record { regs = refl; end = h; memory = refl; written = none o }
stays_ended since none J x ran M o n Quitted h = record { regs = refl; end = h; memory = refl; written = none o }
stays_ended since none J x ran M o n OutOfTurns h = record { regs = refl; end = h; memory = refl; written = none o }

-- ---- a section over memory that tells no track

some_not : {A : Type 0} (x : A) → None ≡ Some x → ⊥
some_not x e = cc

-- no restore is an outer one there
ran_here : {O : Type 0} (since : Writing O) (t : Tree SectionResult) (old : Log) (ran : Ran) (log : Log) (new out : O) → old.track ≡ None
    → RanTo since t old ran log new out → RanToEnd since t old ran log new out
ran_here since t old ran log new out n h = go ran.end h
  where
    go : (e : SectionEnd) → RanSo since t old e ran log new out → RanToEnd since t old ran log new out
    go end.Through h = h
    go end.Stopped h = h
    go end.Quit h = h
    go end.Spent h = h
    go (end.Outer q) h = absurd (some_not q (sym (ap (outer_for t old.view) n) ∙ h))

-- the section that runs after those that have come to their ends
runs_on : {O : Type 0} (since cut : Writing O) (J : Job) (x : Section) (R : Regs) (old : Log) (r : Result Ran RunRefusal) (log : Log) (new out : O) → old.track ≡ None
    → IfOk r (λ ran. RanTo since (section_run J x R) old ran log new out) → OnErr r (Wrote cut new out (section_run J x R) old.view)
    → GoesOn since cut (one_more J x R old.view Through) r log.view new out
runs_on since cut J x R old (Ok ran) log new out n h k =
    let r = ran_here since (section_run J x R) old ran log new out n h in
    record { regs = r.regs; end = r.end; memory = ap (λ (l : Log). l.view) r.log; written = r.wrote }
runs_on since cut J x R old (Err e) log new out n h k = k

-- after an end through its text, the next section runs
module _ {O : Type 0} (since cut : Writing O) (J : Job) (x : Section) (R : Regs) (old : Log) (r : Result Ran RunRefusal) (log : Log) (new out : O) (text : List ℕ) (f : text ≡ text_of J.bytes x) (n : old.track ≡ None)
    (h : IfOk r (λ ran. RanTo since (section_of J.table text J.settings J.moment x.number x.kind R) old ran log new out))
    (k : OnErr r (Wrote cut new out (section_of J.table text J.settings J.moment x.number x.kind R) old.view)) where
  runs_next : GoesOn since cut (one_more J x R old.view Through) r log.view new out
  runs_next = runs_on since cut J x R old r log new out n
      (subst (λ t. IfOk r (λ ran. RanTo since (section_of J.table t J.settings J.moment x.number x.kind R) old ran log new out)) f h)
      (subst (λ t. OnErr r (Wrote cut new out (section_of J.table t J.settings J.moment x.number x.kind R) old.view)) f k)

  pub goes_on : (before : SectionEnd) → before ≡ end.Through → (e : End) → before ≡ end_in e → GoesOn since cut (one_more J x R old.view e) r log.view new out
  goes_on before b Through g = runs_next
  goes_on before b Stopped g = absurd cc
  goes_on before b Quitted g = absurd cc
  goes_on before b OutOfTurns g = absurd cc
