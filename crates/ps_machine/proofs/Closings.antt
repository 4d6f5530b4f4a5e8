-- The end of a section.
use Rattle.std.proofs.Common.{◌≡◌, ℕ, List, [], Option, option_map, Result, Ok, refl, sym, ap, ◌∙◌, subst}
use Rattle.ps_names.specs.declared.error_name.ErrorName.{ErrorName}
use Rattle.ps_kinds.specs.declared.state.State.{State}
use Rattle.ps_memory.specs.Memory.{Output}
use Rattle.ps_memory.specs.Tree.{Tree, ends, ◌>>=◌, applied, result}
use Rattle.ps_meaning.specs.Answer.{Log}
use Rattle.ps_execution.specs.Execution.{on, Stop}
use Rattle.ps_execution.specs.Reached.{reached, came, goes_on_from}
use Rattle.ps_execution.specs.Section.{Report, SectionResult, Stopped, report_of, reports, ended_so}
use Rattle.ps_execution.proofs.Reached.{reached_bind}
use Rattle.ps_report.specs.Reports.{Reports, report_in}
use Rattle.ps_report.specs.declared.report.Report as code
use Rattle.ps_steps.specs.Next.{outcome_of}
use Rattle.ps_steps.specs.declared.next.Outcome.{Outcome}
use Rattle.ps_steps.specs.declared.next.Outcome.TheVariants as outcome
use Rattle.ps_machine.specs.SectionText.{end_text, stop_text}
use Rattle.ps_machine.specs.Sections.{Closes, end_in}
use Rattle.ps_machine.specs.declared.ending.Closing.{Closing}
use Rattle.ps_machine.specs.declared.section.SectionEnd.TheVariants as end
use Rattle.ps_machine.proofs.Outputs.{came_is}

-- what is made of the report
abbrev pub stopped : State → Result (Option Report) ErrorName → SectionResult
stopped s r = record { end = Stopped; regs = s.regs; report = report_of r }

module _ (s : State) (log : Log) where
  -- the report is taken, then the end is told
  stop_reached : (r : Option code.Report) (new : Log) → Reports log r new → (out : List Output)
      → reached (ended_so (on [] s) Stop) log out ≡ came (stopped s (Ok (option_map report_in r))) new out
  stop_reached r new h out =
      let k = λ (x : Result (Option Report) ErrorName). ends (stopped s x) in
      reached_bind (applied reports) k log out ∙ ap (λ x. goes_on_from x k) (h out)

  closes : (r : Option code.Report) (text : List ℕ) (new : Log) → Reports log r new → text ≡ stop_text (option_map report_in r)
      → Closes (ended_so (on [] s) Stop) log (record { end = end.Stopped; text = text }) new
  closes r text new h f =
      let e : result (ended_so (on [] s) Stop) log.view ≡ stopped s (Ok (option_map report_in r)) =
      (came_is (ended_so (on [] s) Stop) log new (stopped s (Ok (option_map report_in r))) [] (stop_reached r new h [])).ended in
      record {
        comes = λ out. stop_reached r new h out ∙ ap (λ x. came x new out) (sym e);
        end = sym (ap (λ (x : SectionResult). end_in x.end) e);
        text = f ∙ sym (ap end_text e);
      }

  pub stop_closes : (o : Outcome) (r : Option code.Report) (text : List ℕ) (new : Log) → o ≡ outcome.Stop → Reports log r new → text ≡ stop_text (option_map report_in r)
      → Closes (ended_so (on [] s) (outcome_of o)) log (record { end = end.Stopped; text = text }) new
  stop_closes o r text new k h f = subst (λ x. Closes (ended_so (on [] s) (outcome_of x)) log (record { end = end.Stopped; text = text }) new) (sym k) (closes r text new h f)
