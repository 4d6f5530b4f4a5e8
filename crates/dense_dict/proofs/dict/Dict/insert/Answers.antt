use Rattle.std.proofs.Common.{ap, ◌∙◌}
use Rattle.std.specs.FinMap.{insert}
use Rattle.dense_dict.proofs.Seats.{anew, inserted}
use Rattle.dense_dict.proofs.dict.Dict.insert.Goals as goal

pub add-requires-clause-anew : goal.add-requires-clause-anew
add-requires-clause-anew c = anew c.self.inside.entries.items c.args.self.now c.args.key c.self.view_is c.requires.anew

pub returns-clause-ok : goal.returns-clause-ok
returns-clause-ok c =
    inserted c.self.inside.entries.items c.add.new.entries.items c.args.key c.args.seat (anew c.self.inside.entries.items c.args.self.now c.args.key c.self.view_is c.requires.anew) c.in_ok-add.ensures.ok
    ∙ ap (λ m. insert m c.args.key c.args.seat) c.self.view_is
