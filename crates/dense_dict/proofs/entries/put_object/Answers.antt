use Rattle.dense_dict.proofs.Seats.{written, not_written}
use Rattle.dense_dict.proofs.entries.put_object.Goals as goal

pub returns-in-Some : goal.returns-in-Some
returns-in-Some c = written c.args.entries.now.items c.args.place c.in-Some.entry.now c.args.object c.in-Some.ensures.item.3.0 c.in-Some.ensures.item.1

pub returns-in_default : goal.returns-in_default
returns-in_default c = not_written c.args.entries.now.items c.args.place c.args.object c.in_default.ensures.item.3
