-- What comes of a tree that goes on with what was scanned.
use Rattle.std.proofs.Common.{◌≡◌, ℕ, List, [], length, Result, Ok, Err, refl, sym, ap, ◌∙◌, subst}
use Rattle.ps_names.specs.declared.error_name.ErrorName.{ErrorName}
use Rattle.ps_objects.specs.declared.objects.FileName.{FileName}
use Rattle.ps_objects.specs.declared.refusal.Refusal.{Refusal}
use Rattle.ps_kinds.specs.declared.act.Act.TheVariants as act
use Rattle.ps_kinds.specs.declared.frame.Frame.{Frame}
use Rattle.ps_kinds.specs.declared.state.State.{State}
use Rattle.ps_memory.specs.Memory.{Memory, value_at, shape_of}
use Rattle.ps_memory.specs.Tree.{Change, Application, done, restores, fail, look, ask}
use Rattle.ps_meaning.specs.Answer.{Log, looked_in, Answer, answer_over}
use Rattle.ps_meaning.specs.Ready.{Ready, ReadyIn}
use Rattle.ps_operator.specs.Keys.{bytes_of}
use Rattle.ps_operator.specs.Owes.{Does, Finds, MeetsDone}
use Rattle.ps_operator.specs.Tree.{Ask, read, continued}
use Rattle.ps_operator.proofs.Then.{answer_then}
use Rattle.ps_execution.specs.Gather.{Scanned, gather}
use Rattle.ps_gather.specs.Cells.{changes_of}
use Rattle.ps_gather.specs.Ended.{Ended, ended, scanned_of, Scans}
use Rattle.ps_gather.specs.declared.gathering.Scanned as code
use Rattle.file_ops.specs.Files.{own}
use Rattle.file_ops.specs.Tokens.{scan_then, file_ends, string_ends, token_in}
use Rattle.file_ops.specs.declared.parts.Whole.{Whole}
use Rattle.file_ops.specs.declared.tokens.Source.TheVariants as source

-- what comes of going on from an end
abbrev gone_on : List Frame → Ended Scanned → (List Change → Scanned → Ask) → State → Answer
gone_on below r k s = elim r.outcome [
  | Ok x ↦ answer_over below (k r.changes x) s r.log
  | Err e ↦ record { act = act.Fail e; state = s; log = r.log }
]

scan_goes_on : (below : List Frame) (t : Application Scanned) (k : List Change → Scanned → Ask) (s : State) (log : Log) → answer_over below (scan_then t k) s log ≡ gone_on below (ended t log) k s
unfolding scan_then
scan_goes_on below (done ws x) k s log = refl
scan_goes_on below (restores r ws x) k s log = refl
scan_goes_on below (fail e) k s log = refl
scan_goes_on below (look l f) k s log = scan_goes_on below (f (value_at log.view l)) k s (looked_in log l)
scan_goes_on below (ask c f) k s log = scan_goes_on below (f (shape_of log.view c)) k s log

scan_answers : (below : List Frame) (bytes : List ℕ) (place : ℕ) (k : List Change → Scanned → Ask) (s : State) (old there : Log) (d : code.Scanned) → Scans bytes place s old d there
    → answer_over below (scan_then (gather bytes place s) k) s old ≡ answer_over below (k (changes_of s 0 d.cells) (scanned_of d)) s there
scan_answers below bytes place k s old there d e = scan_goes_on below (gather bytes place s) k s old ∙ ap (λ r. gone_on below r k s) e

-- ---- looks change nothing

pub ready_after : (s : State) (M N : Memory) → N ≡ M → Ready s M → Ready s N
ready_after s M N e r = subst (Ready s) (sym e) r

pub ready_in_after : (text : List ℕ) (s : State) (M N : Memory) → N ≡ M → ReadyIn text s M → Ready s N
ready_in_after text s M N e r = ready_after s M N e r.ready

-- ---- what is owed for a token is owed for what was scanned

abbrev Outcome : Type 0
Outcome = Result (Unit {0}) Refusal

module _ (text : List ℕ) (s : State) (old there : Log) (d : code.Scanned) (r : Outcome) (new : State) (log : Log) where
  pub file_does : (f : FileName) (u : Unit {0}) → own s f ≡ Ok u → Scans text s.place s old d there → Does (λ s. file_ends s (length text) (changes_of s 0 d.cells) (scanned_of d)) s there r new log
      → Does (λ s. token_in text s (source.Read f)) s old r new log
  file_does f u o e h =
      subst (λ a. MeetsDone a r new log)
      (sym (ap (λ (c : Result (Unit {0}) ErrorName). answer_over s.frames (read c (λ _. scan_then (gather text s.place s) (file_ends s (length text)))) s old) o
      ∙ scan_answers s.frames text s.place (file_ends s (length text)) s old there d e)) h

module _ (s : State) (old seen there : Log) (d : code.Scanned) (r : Outcome) (new : State) (log : Log) where
  pub string_does : (t : Whole) (bs : List ℕ) → Finds (bytes_of t.interval) old bs seen → Scans bs 0 s seen d there → Does (λ s. string_ends s t (changes_of s 0 d.cells) (scanned_of d)) s there r new log
      → Does (λ s. token_in [] s (source.Held t)) s old r new log
  string_does t bs l e h =
      subst (λ a. MeetsDone a r new log)
      (sym (answer_then s.frames (bytes_of t.interval) (λ bs. scan_then (gather bs 0 s) (string_ends s t)) s old
      ∙ ap (λ q. continued s.frames q (λ bs. scan_then (gather bs 0 s) (string_ends s t)) s) l
      ∙ scan_answers s.frames bs 0 (string_ends s t) s seen there d e)) h
