use Rattle.commit_places.proofs.Promise as promise
use Rattle.commit_places.proofs.Taking.{lies}
use Rattle.commit_places.proofs.law.places_promise.Goals as goal

pub returns-clause-not_laid : goal.returns-clause-not_laid
returns-clause-not_laid g c = λ z s k page seat a has. promise.once _ z s k page seat a has

pub returns-clause-near : goal.returns-clause-near
returns-clause-near g c = λ z s k page seat a has ne. promise.near _ z s k page seat a has ne

pub returns-clause-right : goal.returns-clause-right
returns-clause-right g c = λ z s k page some_page room there. let l = lies _ z s k page some_page room there in (l.1.0, l.1.1, l.1.2)

pub returns-clause-few : goal.returns-clause-few
returns-clause-few g c = λ z s k. promise.few _ z s k

pub returns-clause-over : goal.returns-clause-over
returns-clause-over g c = λ z s k seat hand at is. promise.over _ z s k seat hand at is

pub returns-clause-drawn_once : goal.returns-clause-drawn_once
returns-clause-drawn_once g c = λ z s k. promise.drawn_once _ z s k

pub returns-clause-finished_once : goal.returns-clause-finished_once
returns-clause-finished_once g c = λ z s k. promise.finished_once _ z s k

pub returns-clause-by_drawer : goal.returns-clause-by_drawer
returns-clause-by_drawer g c = λ z s k. promise.by_drawer _ z s k
