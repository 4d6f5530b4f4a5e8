use Rattle.commit_desk.proofs.Runs.{made_by_same, made_by_claim, made_by_finish, made_by_take, made_by_done}
use Rattle.commit_desk.proofs.law.made_by_its_calls.Goals as goal

pub returns : goal.returns
returns g c = record {
  new = λ desk empty none. record { history = empty; pieces = none; takings = tt };
  same = made_by_same;
  claim = made_by_claim;
  finish = made_by_finish;
  take = made_by_take;
  done = made_by_done;
}
