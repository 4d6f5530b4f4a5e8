use Rattle.commit_desk.proofs.Once.{legal_once}
use Rattle.commit_desk.proofs.law.each_at_most_once.Goals as goal

pub returns : goal.returns
returns c = record {
  claimed = λ ahead h p legal. (legal_once ahead h legal).claims p;
  finished = λ ahead h p legal. (legal_once ahead h legal).finishes p;
  taken = λ ahead h p legal. (legal_once ahead h legal).takings p;
  near = λ ahead h legal. (legal_once ahead h legal).near;
}
