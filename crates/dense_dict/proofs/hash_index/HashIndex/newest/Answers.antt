use Rattle.std.proofs.Common.{◌∙◌}
use Rattle.dense_dict.proofs.Walks.{head_kept, head_gives}
use Rattle.dense_dict.proofs.hash_index.HashIndex.newest.Goals as goal

pub walk-requires-clause-start : goal.walk-requires-clause-start
walk-requires-clause-start c = head_kept c.args.self.now c.args.hash c.head-head.result c.head-head.ensures

pub returns : goal.returns
returns c = c.walk.ensures ∙ head_gives c.args.self.now c.args.hash c.head-head.result c.head-head.ensures
