use Rattle.std.proofs.Common.{refl}
use Rattle.out_writers.proofs.Pictures.{none_shown}
use Rattle.out_writers.proofs.to_sinks.ToSinksOutlet.say.Goals as goal

pub returns-clause-said : goal.returns-clause-said
returns-clause-said g c = record {
  over = record { pages = refl; back = refl };
  pages = none_shown (g.P.Sink.holds c.args.self.now.pages.now);
  said = c.in_ok-put.ensures.appended;
}
