use Rattle.std.proofs.Common.{sym, ◌∙◌}
use Rattle.dense_dict.proofs.Walks.{older_kept, older_gives, not_there}
use Rattle.dense_dict.proofs.hash_index.HashIndex.older.Goals as goal

pub walk-requires-clause-start : goal.walk-requires-clause-start
walk-requires-clause-start c = older_kept c.args.self.now c.args.hash c.args.place c.in-Some.link.now c.requires.linked c.in-Some.ensures c.requires.hash

pub returns-in-Some : goal.returns-in-Some
returns-in-Some c = c.walk.ensures ∙ older_gives c.args.self.now c.args.hash c.args.place c.in-Some.link.now c.requires.linked c.in-Some.ensures c.requires.hash

pub returns-in-None : goal.returns-in-None
returns-in-None c = not_there c.args.self.now c.args.hash c.args.place _ (sym c.in-None.ensures) c.requires.hash
