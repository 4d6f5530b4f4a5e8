-- What a call answers to words, and what its sinks hold.
use Rattle.std.proofs.Common.{◌≡◌, ℕ, List, Option, Some, None, sym, subst}
use Rattle.std.specs.Prelude.{IfSome}
use Rattle.ps_execution.specs.Table.{Table}
use Rattle.rip_run.specs.Answers.{Answers}
use Rattle.rip_run.specs.Job.{JobResult, result_of_command, result_of_words}
use Rattle.rip_run.specs.Status.{IsDefined, Writes}
use Rattle.command_words.specs.declared.command.Command.{Command}
use Rattle.rip_run.specs.declared.status.Status.{Status}

pub words_answers : (T : Table) (words : Option Command) (command : Command) (moment : ℕ) (start : Option (List ℕ)) (answer : Status) (p q b c : Option (List ℕ))
    → words ≡ Some command → IfSome start (λ job. Answers (result_of_command T command moment job) answer p q b c)
    → IfSome start (λ job. Answers (result_of_words T words moment job) answer p q b c)
words_answers T words command moment start answer p q b c e h = subst (λ o. IfSome start (λ job. Answers (result_of_words T o moment job) answer p q b c)) (sym e) h

module _ (F : List ℕ → JobResult) (start : Option (List ℕ)) (answer : Status) (p q b c : Option (List ℕ)) where
  abbrev Known : Type 0
  Known = IfSome start (λ job. Answers (F job) answer p q b c)

  pub of_status : Known → IfSome start (λ job. IsDefined answer → answer ≡ (F job).status)
  of_status h = then start h
    where
      then : (o : Option (List ℕ)) → IfSome o (λ job. Answers (F job) answer p q b c) → IfSome o (λ job. IsDefined answer → answer ≡ (F job).status)
      then None h = tt
      then (Some job) h = h.status

  pub of_pages : Known → IfSome start (λ job. Writes answer (F job).pages p q)
  of_pages h = then start h
    where
      then : (o : Option (List ℕ)) → IfSome o (λ job. Answers (F job) answer p q b c) → IfSome o (λ job. Writes answer (F job).pages p q)
      then None h = tt
      then (Some job) h = h.pages

  pub of_back : Known → IfSome start (λ job. Writes answer (F job).back b c)
  of_back h = then start h
    where
      then : (o : Option (List ℕ)) → IfSome o (λ job. Answers (F job) answer p q b c) → IfSome o (λ job. Writes answer (F job).back b c)
      then None h = tt
      then (Some job) h = h.back
