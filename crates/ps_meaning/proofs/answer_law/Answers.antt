-- By induction over the application.
use Rattle.ps_meaning.proofs.Answer
use Rattle.ps_meaning.proofs.answer_law.Goals as goal

pub returns : goal.returns
returns c = Answer.answer_law
