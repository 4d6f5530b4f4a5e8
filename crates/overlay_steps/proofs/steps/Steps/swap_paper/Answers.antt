use Rattle.std.proofs.Common.{sym}
use Rattle.overlay_steps.specs.Pile.{acts}
use Rattle.overlay_steps.proofs.Finding.{paper_there}
use Rattle.overlay_steps.proofs.steps.Steps.swap_paper.Goals as goal

pub returns-in-Some-clause-new : goal.returns-in-Some-clause-new
returns-in-Some-clause-new c = paper_there c.args.paper c.in-Some.place (acts c.args.self.now) (acts c.put.new.self) c.put.result (sym c.in-Some.ensures) c.put.ensures.old c.put.ensures.new
