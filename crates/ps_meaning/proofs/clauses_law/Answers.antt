-- Clause by clause.
use Rattle.ps_meaning.proofs.Clauses
use Rattle.ps_meaning.proofs.clauses_law.Goals as goal

pub returns : goal.returns
returns c = Clauses.clauses_law
