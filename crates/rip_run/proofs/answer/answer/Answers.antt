-- A job that is too large.
use Rattle.std.proofs.Common.{◌≡◌, ◌+◌, Some, drop, rules}
use Rattle.rip_run.proofs.Answering.{too_large_answers}
use Rattle.rip_run.proofs.answer.answer.Goals as goal

pub returns-in-Err-TooLong-clause-answers : goal.returns-in-Err-TooLong-clause-answers
returns-in-Err-TooLong-clause-answers g c =
    too_large_answers g.T.Operators.table c.args.command.now c.args.moment (g.S.Source.left c.args.source.now) (λ bytes. g.S.Source.left c.read_job.new.source ≡ Some (drop (268435456 + 1) bytes))
    c.write.result (g.P.Sink.holds c.args.pages.now) (g.B.Sink.holds c.args.back.now) (g.B.Sink.holds c.write.new.back) (search rules) (search rules) (search rules)
