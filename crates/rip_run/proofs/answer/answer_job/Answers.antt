-- A command that is `split`.
use Rattle.std.proofs.Common.{sym, subst}
use Rattle.rip_run.specs.Answers.{Answers}
use Rattle.rip_run.specs.Job.{result_of_read}
use Rattle.rip_run.proofs.answer.answer_job.Goals as goal

pub returns-in-Split-clause-answers : goal.returns-in-Split-clause-answers
returns-in-Split-clause-answers g c =
    subst (λ command. Answers (result_of_read g.T.Operators.table command c.args.moment c.args.job.now) c.list_sections.result
    (g.P.Sink.holds c.args.pages.now) (g.P.Sink.holds c.args.pages.now) (g.B.Sink.holds c.args.back.now) (g.B.Sink.holds c.list_sections.new.back)) (sym c.in-Split.is)
    (c.list_sections.ensures.answers g.T.Operators.table c.args.moment (g.P.Sink.holds c.args.pages.now))
