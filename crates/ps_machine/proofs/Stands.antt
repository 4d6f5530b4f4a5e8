-- What stands before each round of the loop, and at its end.
use Rattle.std.specs.Bool.{⊤}
use Rattle.std.proofs.Common.{◌≡◌, ℕ, true, List, [], ◌++◌, Option, Some, None, refl, sym, ap, ◌∙◌, subst, Ok, append-nil}
use Rattle.ps_shapes.specs.Sheet.{Sheet}
use Rattle.ps_kinds.specs.declared.state.State.{State}
use Rattle.ps_memory.specs.Memory.{Memory, Output}
use Rattle.ps_memory.specs.Tree.{Tree}
use Rattle.ps_meaning.specs.Answer.{Log}
use Rattle.ps_execution.specs.Execution.{Ending, on}
use Rattle.ps_execution.specs.Lawful.{LawfulTable, SoundAt}
use Rattle.ps_execution.specs.Machine.{goes, rest_of}
use Rattle.ps_execution.specs.Reached.{reached, came, outer}
use Rattle.ps_execution.specs.Table.{Table, Program}
use Rattle.ps_steps.specs.Next.{program, outcome_of, is_step, move_of}
use Rattle.ps_steps.specs.declared.next.Next.{Next}
use Rattle.ps_steps.specs.declared.next.Next.TheVariants as next
use Rattle.ps_steps.specs.declared.next.Outcome.{Outcome}
use Rattle.ps_objects.specs.declared.cell.SaveName.{SaveName}
use Rattle.ps_machine.specs.Loops.{Stands}
use Rattle.ps_machine.specs.Runs.{told, given, stepped, is_quiet, Advances, whole_of, Since, Ends}
use Rattle.ps_machine.specs.Lines.{papers_of, messages_of, last_byte, last_after}
use Rattle.ps_machine.specs.declared.running.Halt.TheVariants as halt
use Rattle.ps_machine.proofs.Loops.{sound_before, sound_after, rest_after, front_after, given_first}
use Rattle.ps_machine.proofs.Texts.{papers_joined, messages_joined, last_joined}

-- how an outlet may be since another moment
abbrev pub Relation : Type 0 → Type 1
Relation O = O → O → List Sheet → List ℕ → Type 0

module _ {O : Type 0} (since : Relation O) where
  pub begun : ((o : O) → since o o [] []) → (T : Table) (text : List ℕ) (s : State) (log : Log) (o : O) → SoundAt text (goes s) log.view
      → Stands since (program T text) (whole_of T text s) log o next.Goes s log o None
  begun nothing T text s log o h = record { outputs = []; sound = h; quiet = tt; rest = refl; front = refl; gave = nothing o; ended = refl }

  -- one after the other
  abbrev Joined : Type 0
  Joined = (n m o : O) (papers more : List Sheet) (text rest : List ℕ) → since m o papers text → since n m more rest → since n o (papers ++ more) (text ++ rest)

  joined_all : Joined → (n m o : O) (a b : List Output) → Since since m o a → Since since n m b → Since since n o (a ++ b)
  joined_all j n m o a b p q =
      subst (λ ps. since n o ps (messages_of (a ++ b))) (sym (papers_joined a b))
      (subst (λ ts. since n o (papers_of a ++ papers_of b) ts) (sym (messages_joined a b))
      (j n m o (papers_of a) (papers_of b) (messages_of a) (messages_of b) p q))

  pub round : Joined → (T : Table) (lawful : LawfulTable T) (text : List ℕ) (t : Tree Ending) (old : Log) (o m n : O) (x y : Next) (s u : State) (log there : Log) (last after : Option ℕ)
      → Stands since (program T text) t old o x s log m last → is_step x ≡ true → Advances (stepped T text x s log) (Ok y) u there → is_quiet y → Since since n m (given (stepped T text x s log))
      → after ≡ last_after last (messages_of (given (stepped T text x s log)))
      → Stands since (program T text) t old o y u there n after
  round j T lawful text t old o m n x y s u log there last after h l e q g a =
      let os = given (stepped T text x s log) in
      record {
        outputs = h.outputs ++ os;
        sound = sound_after T lawful text x y s u log there (sound_before text x s log.view l h.sound) e;
        quiet = q;
        rest = rest_after T lawful text x y s u log there h.outputs l e ∙ h.rest;
        front = front_after T lawful text x y s u log there (told t old.view) h.outputs l h.front e;
        gave = joined_all j n m o h.outputs os h.gave g;
        ended = a ∙ ap (λ b. last_after b (messages_of os)) h.ended ∙ sym (ap last_byte (messages_joined h.outputs os) ∙ last_joined (messages_of h.outputs) (messages_of os));
      }

  -- at the end all outputs were given
  pub ended : (P : Program) (t : Tree Ending) (old : Log) (o n : O) (k : Outcome) (s : State) (log : Log) (last : Option ℕ)
      → Stands since P t old o (next.Ended k) s log n last → Ends since t old (Ok (halt.Ended k last)) s log n o
  ended P t old o n k s log last h =
      let e : told t old.view ≡ h.outputs = h.front ∙ append-nil h.outputs in (
        sym h.rest ∙ ap (came (record { outcome = outcome_of k; state = on [] s }) log) (sym e),
        subst (Since since n o) (sym e) h.gave,
        h.ended ∙ ap (λ os. last_byte (messages_of os)) (sym e),
      )

  pub ended_outer : (P : Program) (t : Tree Ending) (old : Log) (o n : O) (q : SaveName) (s : State) (log : Log) (last : Option ℕ)
      → Stands since P t old o (next.Outer q) s log n last → reached t old [] ≡ outer q
  ended_outer P t old o n q s log last h = sym h.rest

module _ {O : Type 0} (since cut : Relation O) where
  abbrev JoinedCut : Type 0
  JoinedCut = (n m o : O) (papers more : List Sheet) (text rest : List ℕ) → since m o papers text → cut n m more rest → cut n o (papers ++ more) (text ++ rest)

  abbrev Longer : Type 0
  Longer = (n o : O) (papers more : List Sheet) (text rest : List ℕ) → cut n o papers text → cut n o (papers ++ more) (text ++ rest)

  cut_all : JoinedCut → (n m o : O) (a b : List Output) → Since since m o a → Since cut n m b → Since cut n o (a ++ b)
  cut_all j n m o a b p q =
      subst (λ ps. cut n o ps (messages_of (a ++ b))) (sym (papers_joined a b))
      (subst (λ ts. cut n o (papers_of a ++ papers_of b) ts) (sym (messages_joined a b))
      (j n m o (papers_of a) (papers_of b) (messages_of a) (messages_of b) p q))

  longer_all : Longer → (n o : O) (a b : List Output) → Since cut n o a → Since cut n o (a ++ b)
  longer_all l n o a b p =
      subst (λ ps. cut n o ps (messages_of (a ++ b))) (sym (papers_joined a b))
      (subst (λ ts. cut n o (papers_of a ++ papers_of b) ts) (sym (messages_joined a b))
      (l n o (papers_of a) (papers_of b) (messages_of a) (messages_of b) p))

  -- where a step is refused, a front of the outputs was given
  pub refused : JoinedCut → Longer → (T : Table) (lawful : LawfulTable T) (text : List ℕ) (t : Tree Ending) (old : Log) (o m n : O) (x : Next) (s : State) (log : Log) (last : Option ℕ)
      → Stands since (program T text) t old o x s log m last → is_step x ≡ true → Since cut n m (given (stepped T text x s log)) → Since cut n o (told t old.view)
  refused j k T lawful text t old o m n x s log last h l c =
      let os = given (stepped T text x s log) in
      let (rest, e) = given_first T lawful text x s log (told t old.view) h.outputs l h.front in
      subst (Since cut n o) (sym e) (longer_all k n o (h.outputs ++ os) rest (cut_all j n m o h.outputs os h.gave c))
