-- What operators are written with: trees that read, look and go on.
use Rattle.std.specs.Prelude.{List, [], Result, Ok, Err}
use Rattle.ps_names.specs.declared.error_name.ErrorName.{ErrorName}
use Rattle.ps_kinds.specs.declared.act.Act.TheVariants as act
use Rattle.ps_kinds.specs.declared.frame.Frame.{Frame}
use Rattle.ps_kinds.specs.declared.state.State.{State}
use Rattle.ps_memory.specs.Memory.{value_at, shape_of}
use Rattle.ps_memory.specs.Tree.{Application, done, restores, fail, look, ask}
pub use Rattle.ps_meaning.specs.Answer.{read}
use Rattle.ps_meaning.specs.Answer.{Log, looked_in, Effect, Answer, answer_over}

-- what an operator or a step does
abbrev pub Ask : Type 0
Ask = Application Effect

-- ---- trees that look and find something

-- a tree that only looks ends with what it found
abbrev pub found : {A : Type 0} → A → Application A
found x = done [] x

-- goes on with what such a tree found
unfoldable pub look_then : {A B : Type 0} → Application A → (A → Application B) → Application B
look_then (done ws x) k = k x
look_then (restores r ws x) k = k x
look_then (fail e) k = fail e
look_then (look l f) k = look l (λ v. look_then (f v) k)
look_then (ask c f) k = ask c (λ s. look_then (f s) k)

-- what was found, or the error, and the log after the looks
pub record Reading (A : Type 0) : Type 0 where
  pub outcome : Result A ErrorName
  pub log : Log

-- what a tree finds from a log on
abbrev pub reads : {A : Type 0} → Application A → Log → Reading A
reads (done ws x) log = record { outcome = Ok x; log = log }
reads (restores r ws x) log = record { outcome = Ok x; log = log }
reads (fail e) log = record { outcome = Err e; log = log }
reads (look l f) log = reads (f (value_at log.view l)) (looked_in log l)
reads (ask c f) log = reads (f (shape_of log.view c)) log

-- the answer of what goes on with what was found
abbrev pub continued : {A : Type 0} → List Frame → Reading A → (A → Ask) → State → Answer
continued below r k s = elim r.outcome [
  | Ok x ↦ answer_over below (k x) s r.log
  | Err e ↦ record { act = act.Fail e; state = s; log = r.log }
]

-- what is found by going on with what was found
abbrev pub went_on : {A B : Type 0} → Reading A → (A → Application B) → Reading B
went_on r k = elim r.outcome [
  | Ok x ↦ reads (k x) r.log
  | Err e ↦ record { outcome = Err e; log = r.log }
]
