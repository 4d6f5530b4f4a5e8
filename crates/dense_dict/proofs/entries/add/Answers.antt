use Rattle.dense_dict.proofs.Seats.{indexed_pushed}
use Rattle.dense_dict.proofs.entries.add.Goals as goal

pub returns-in-Ok-clause-indexed : goal.returns-in-Ok-clause-indexed
returns-in-Ok-clause-indexed c = indexed_pushed c.args.index.now c.push-2.new.self c.args.entries.now.items c.push.new.self.items c.args.key c.args.seat c.args.hash c.requires.indexed c.requires.anew c.requires.hash c.push-2.ensures.linked c.in-Ok.ensures.ok c.in_ok-push.ensures.items
