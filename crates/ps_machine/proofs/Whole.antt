-- A section as its run and its end.
use Rattle.std.proofs.Common.{◌≡◌, ℕ, List, [], ◌∷◌, ◌++◌, Option, Some, None, option_map, refl, sym, ap, ◌∙◌, subst, append-nil, append_assoc, Ok, Err}
use Rattle.std.specs.Bool.{⊤}
use Rattle.ps_shapes.specs.Sheet.{Sheet}
use Rattle.ps_objects.specs.declared.cell.SaveName.{SaveName}
use Rattle.ps_objects.specs.declared.section.SectionKind.{SectionKind}
use Rattle.ps_objects.specs.declared.settings.Settings.{Settings}
use Rattle.ps_kinds.specs.declared.regs.Regs.{Regs}
use Rattle.ps_kinds.specs.declared.state.State.{State}
use Rattle.ps_memory.specs.Memory.{Memory, Output}
use Rattle.ps_memory.specs.Track.{track_on}
use Rattle.ps_memory.specs.Tree.{Tree, ends, ◌>>=◌, applied, result, after}
use Rattle.ps_meaning.specs.Answer.{Log}
use Rattle.ps_execution.specs.Execution.{Ending, on}
use Rattle.ps_execution.specs.Reached.{Reached, came, outer, reached, goes_on_from, outer_for, reached_as}
use Rattle.ps_execution.specs.Section as meaning
use Rattle.ps_execution.specs.Section.{SectionResult, End, Stopped, Quitted, OutOfTurns, reports, ended_so, fresh_state}
use Rattle.ps_execution.specs.Table.{Table}
use Rattle.ps_execution.specs.Execution.{Next, Exit, Stop, Quit, Spent}
use Rattle.ps_execution.proofs.Reached.{reached_bind, reached_law}
use Rattle.ps_execution.proofs.Stays.{result_bind}
use Rattle.ps_steps.specs.Next.{outcome_of}
use Rattle.ps_steps.specs.declared.next.Outcome.{Outcome}
use Rattle.ps_steps.specs.declared.next.Outcome.TheVariants as outcome
use Rattle.ps_machine.specs.Lines.{papers_of, messages_of, last_byte, line_end_after}
use Rattle.ps_machine.specs.Runs.{told, whole_of, Since, Ends}
use Rattle.ps_machine.specs.SectionText.{end_text, section_text}
use Rattle.ps_machine.specs.Sections.{section_of, end_in, Closes, Wrote, RanToEnd, RanSo, RanTo}
use Rattle.ps_machine.specs.declared.ending.Closing.{Closing}
use Rattle.ps_machine.specs.declared.running.Halt.{Halt}
use Rattle.ps_machine.specs.declared.running.Halt.TheVariants as halt
use Rattle.ps_machine.specs.declared.section.Ran.{Ran}
use Rattle.ps_machine.specs.declared.section.SectionEnd.{SectionEnd}
use Rattle.ps_machine.specs.declared.section.SectionEnd.TheVariants as end
use Rattle.ps_machine.proofs.Closings.{stopped}
use Rattle.ps_machine.proofs.Outputs.{told_bind, came_is}
use Rattle.ps_machine.proofs.Stands.{Relation}
use Rattle.ps_machine.proofs.Texts.{papers_joined, messages_joined}

-- the end that follows a run
abbrev ending : Ending → Tree SectionResult
ending e = ended_so e.state e.outcome

-- ---- what a run came to says where it has no outer restore

record Through {A : Type 0} (t : Tree A) (old : Log) (a : A) (there : Log) (out : List Output) : Type 0 where
  inner : outer_for t old.view old.track ≡ None
  log : there ≡ record { view = after t old.view; track = option_map (track_on t old.view) old.track }

abbrev IsThrough : {A : Type 0} → Tree A → Log → Reached A → Type 0
IsThrough t old (came a there out) = Through t old a there out
IsThrough t old (outer q) = outer_for t old.view old.track ≡ Some q

through : {A : Type 0} (t : Tree A) (old : Log) → IsThrough t old (reached t old [])
through {A = A} t old = subst (IsThrough t old) (sym (reached_law A t old.view old.track [])) (go (outer_for t old.view old.track) refl)
  where
    go : (q : Option SaveName) → outer_for t old.view old.track ≡ q → IsThrough t old (reached_as t old.view old.track [] q)
    go None e = record { inner = e; log = refl }
    go (Some q) e = e

-- no end is an outer restore
not_outer : (q : SaveName) (e : End) → end.Outer q ≡ end_in e → ⊥
not_outer q meaning.Through h = cc
not_outer q Stopped h = cc
not_outer q Quitted h = cc
not_outer q OutOfTurns h = cc

module _ (T : Table) (text : List ℕ) (settings : Settings) (moment number : ℕ) (kind : SectionKind) (regs : Regs) (old : Log) where
  abbrev t : Tree SectionResult
  t = section_of T text settings moment number kind regs

  abbrev w : Tree Ending
  w = whole_of T text (fresh_state settings moment number kind regs)

  -- a section is the run of the machine, and then its end
  as_run : t ≡ (w >>= ending)
  as_run = refl

  pub outer_section : (q : SaveName) → reached w old [] ≡ outer q → outer_for t old.view old.track ≡ Some q
  outer_section q e = subst (IsThrough t old) (reached_bind w ending old [] ∙ ap (λ x. goes_on_from x ending) e) (through t old)

  -- a section keeps the registers of its run
  regs_of : (o : Outcome) (s : State) (M : Memory) → (result (ended_so (on [] s) (outcome_of o)) M).regs ≡ s.regs
  regs_of outcome.Next s M = refl
  regs_of outcome.Exit s M = refl
  regs_of outcome.Stop s M = ap (λ (x : SectionResult). x.regs) (result_bind (applied reports) (λ r. ends (stopped s r)) M)
  regs_of outcome.Quit s M = refl
  regs_of outcome.Spent s M = refl

  module _ (o : Outcome) (s : State) (log new : Log) (c : Closing) (e : reached w old [] ≡ came (record { outcome = outcome_of o; state = on [] s }) log (told w old.view)) (h : Closes (ended_so (on [] s) (outcome_of o)) log c new) where
    abbrev k : Tree SectionResult
    k = ended_so (on [] s) (outcome_of o)

    section_reached : reached t old [] ≡ came (result k log.view) new (told w old.view)
    section_reached = reached_bind w ending old [] ∙ ap (λ x. goes_on_from x ending) e ∙ h.comes (told w old.view)

    same_result : result t old.view ≡ result k log.view
    same_result = (came_is t old new (result k log.view) (told w old.view) section_reached).ended

    same_outputs : told t old.view ≡ told w old.view
    same_outputs = (came_is t old new (result k log.view) (told w old.view) section_reached).outputs

    section_through : Through t old (result k log.view) new (told w old.view)
    section_through = subst (IsThrough t old) section_reached (through t old)

    -- all that the section says
    whole_text : section_text (result t old.view) (told t old.view) ≡ messages_of (told w old.view) ++ (line_end_after (last_byte (messages_of (told w old.view))) ++ c.text)
    whole_text =
        ap (section_text (result t old.view)) same_outputs
        ∙ append_assoc (messages_of (told w old.view)) (line_end_after (last_byte (messages_of (told w old.view)))) (end_text (result t old.view))
        ∙ ap (λ x. messages_of (told w old.view) ++ (line_end_after (last_byte (messages_of (told w old.view))) ++ end_text x)) same_result
        ∙ ap (λ x. messages_of (told w old.view) ++ (line_end_after (last_byte (messages_of (told w old.view))) ++ x)) (sym h.text)

    module _ {O : Type 0} (last : Option ℕ) (l : last ≡ last_byte (messages_of (told w old.view))) where
      -- the run's outputs, and then the end's text, are all that the section gives out
      wrote_as : (R : Relation O) (n o : O) → R n o (papers_of (told w old.view) ++ []) (messages_of (told w old.view) ++ (line_end_after last ++ c.text)) → Wrote R n o t old.view
      wrote_as R n o p =
          let ts = messages_of (told w old.view) in
          subst (λ ps. R n o ps (section_text (result t old.view) (told t old.view))) (append-nil (papers_of (told w old.view)) ∙ ap papers_of (sym same_outputs))
          (subst (λ text. R n o (papers_of (told w old.view) ++ []) text) (ap (λ b. ts ++ (line_end_after b ++ c.text)) l ∙ sym whole_text) p)

      pub ran : (since : Relation O) → ((n m o : O) (papers more : List Sheet) (text rest : List ℕ) → since m o papers text → since n m more rest → since n o (papers ++ more) (text ++ rest))
          → (n m z : O) → Since since m z (told w old.view) → since n m [] (line_end_after last ++ c.text)
          → RanToEnd since t old (record { regs = s.regs; end = c.end }) new n z
      ran since j n m z a b = record {
        inner = section_through.inner;
        end = h.end ∙ sym (ap (λ (x : SectionResult). end_in x.end) same_result);
        regs = sym (ap (λ (x : SectionResult). x.regs) same_result ∙ regs_of o s log.view);
        log = section_through.log;
        wrote = wrote_as since n z (j n m z (papers_of (told w old.view)) [] (messages_of (told w old.view)) (line_end_after last ++ c.text) a b);
      }

      pub cut_in_end : (since cut : Relation O) → ((n m o : O) (papers more : List Sheet) (text rest : List ℕ) → since m o papers text → cut n m more rest → cut n o (papers ++ more) (text ++ rest))
          → (n m z : O) → Since since m z (told w old.view) → cut n m [] (line_end_after last ++ c.text) → Wrote cut n z t old.view
      cut_in_end since cut j n m z a b = wrote_as cut n z (j n m z (papers_of (told w old.view)) [] (messages_of (told w old.view)) (line_end_after last ++ c.text) a b)

  -- a front of the run's outputs is one of the section's
  pub cut_before : {O : Type 0} (cut : Relation O) → ((n o : O) (papers more : List Sheet) (text rest : List ℕ) → cut n o papers text → cut n o (papers ++ more) (text ++ rest))
      → (n z : O) → Since cut n z (told w old.view) → Wrote cut n z t old.view
  cut_before cut longer n z p =
      let e = result w old.view in
      let more = told (ending e) (after w old.view) in
      let whole = told w old.view in
      let both : told t old.view ≡ whole ++ more = told_bind w ending old.view in
      let tail = messages_of more ++ (line_end_after (last_byte (messages_of (told t old.view))) ++ end_text (result t old.view)) in
      let texts : messages_of whole ++ tail ≡ section_text (result t old.view) (told t old.view) =
      sym (append_assoc (messages_of whole) (messages_of more) _)
      ∙ ap (λ x. x ++ (line_end_after (last_byte (messages_of (told t old.view))) ++ end_text (result t old.view))) (sym (ap messages_of both ∙ messages_joined whole more))
      ∙ sym (append_assoc (messages_of (told t old.view)) (line_end_after (last_byte (messages_of (told t old.view)))) (end_text (result t old.view))) in
      let papers : papers_of whole ++ papers_of more ≡ papers_of (told t old.view) = sym (ap papers_of both ∙ papers_joined whole more) in
      subst (λ x. cut n z (papers_of (told t old.view)) x) texts
      (subst (λ x. cut n z x (messages_of whole ++ tail)) papers
      (longer n z (papers_of whole) (papers_of more) (messages_of whole) tail p))

  -- ---- as the code meets them: the state before the run, and where it stopped

  abbrev Both : {O : Type 0} → Relation O → Relation O → Type 0
  Both {O} since cut = (n m o : O) (papers more : List Sheet) (text rest : List ℕ) → since m o papers text → cut n m more rest → cut n o (papers ++ more) (text ++ rest)

  pub outer_here : {O : Type 0} (since : Relation O) (first : State) (h : Halt) (q : SaveName) (s : State) (log : Log) (m z : O)
      → first ≡ fresh_state settings moment number kind regs → h ≡ halt.Outer q → Ends since (whole_of T text first) old (Ok h) s log m z → outer_for t old.view old.track ≡ Some q
  outer_here since first h q s log m z f e r =
      outer_section q (subst (λ x. reached (whole_of T text x) old [] ≡ outer q) f (subst (λ x. Ends since (whole_of T text first) old (Ok x) s log m z) e r))

  pub refused_here : {O : Type 0} (cut : Relation O) → ((n o : O) (papers more : List Sheet) (text rest : List ℕ) → cut n o papers text → cut n o (papers ++ more) (text ++ rest))
      → (first : State) (n z : O) → first ≡ fresh_state settings moment number kind regs → Since cut n z (told (whole_of T text first) old.view) → Wrote cut n z t old.view
  refused_here cut longer first n z f p = cut_before cut longer n z (subst (λ x. Since cut n z (told (whole_of T text x) old.view)) f p)

  module _ {O : Type 0} (since : Relation O) (first : State) (h : Halt) (o : Outcome) (last : Option ℕ) (s : State) (log : Log) (m z : O)
      (f : first ≡ fresh_state settings moment number kind regs) (e : h ≡ halt.Ended o last) (r : Ends since (whole_of T text first) old (Ok h) s log m z) where
    ended_here : Ends since w old (Ok (halt.Ended o last)) s log m z
    ended_here =
        subst (λ x. Ends since (whole_of T text x) old (Ok (halt.Ended o last)) s log m z) f
        (subst (λ x. Ends since (whole_of T text first) old (Ok x) s log m z) e r)

    -- a refusal before the end is told
    pub refused_at_end : (cut : Relation O) → ((n o : O) (papers : List Sheet) (text : List ℕ) → since n o papers text → cut n o papers text)
        → ((n o : O) (papers more : List Sheet) (text rest : List ℕ) → cut n o papers text → cut n o (papers ++ more) (text ++ rest)) → Wrote cut m z t old.view
    refused_at_end cut whole longer = cut_before cut longer m z (whole m z (papers_of (told w old.view)) (messages_of (told w old.view)) ended_here.1)

    module _ (new : Log) (c : Closing) (k : Closes (ended_so (on [] s) (outcome_of o)) log c new) (said : List ℕ) (a : said ≡ line_end_after last ++ c.text) where
      -- a refusal while it is told
      pub refused_in_end : (cut : Relation O) → Both since cut → (n : O) → cut n m [] said → Wrote cut n z t old.view
      refused_in_end cut j n p = cut_in_end o s log new c ended_here.0 k last ended_here.2 since cut j n m z ended_here.1 (subst (cut n m []) a p)

      -- the end was told
      pub ran_here : Both since since → (n : O) → since n m [] said → RanTo since t old (record { regs = s.regs; end = c.end }) new n z
      ran_here j n p = so c.end (result (ended_so (on [] s) (outcome_of o)) log.view).end k.end
          (ran o s log new c ended_here.0 k last ended_here.2 since j n m z ended_here.1 (subst (since n m []) a p))
        where
          so : (x : SectionEnd) (y : End) → x ≡ end_in y → RanToEnd since t old (record { regs = s.regs; end = c.end }) new n z
              → RanSo since t old x (record { regs = s.regs; end = c.end }) new n z
          so end.Through y i q = q
          so end.Stopped y i q = q
          so end.Quit y i q = q
          so end.Spent y i q = q
          so (end.Outer b) y i q = absurd (not_outer b y i)
