-- A store over a store of the paper is one store.
use Rattle.ps_meaning.proofs.Looks
use Rattle.ps_meaning.proofs.laying_law.Goals as goal

pub returns : goal.returns
returns c = Looks.laying_law
