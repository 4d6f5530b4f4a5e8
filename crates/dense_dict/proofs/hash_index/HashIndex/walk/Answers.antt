use Rattle.std.proofs.Common.{option_copied, sym, ap, ◌∙◌}
use Rattle.dense_dict.proofs.Walks.{none_there, found, next_below, next_kept, next_gives}
use Rattle.dense_dict.proofs.hash_index.HashIndex.walk.Goals as goal

pub returns-in_default : goal.returns-in_default
returns-in_default c = none_there c.args.self.now c.args.hash c.loop-at.at _ (sym c.link.ensures ∙ ap option_copied c.in_default.is) c.loop-at-test.true c.loop-at.invariant.1

pub returns-then-link-hash : goal.returns-then-link-hash
returns-then-link-hash c = found c.args.self.now c.args.hash c.loop-at.at _ c.in-Some.link.now c.in-Some.ensures c.loop-at-test.true c.if-link-hash.true c.loop-at.invariant.0

pub loop-at-smaller : goal.loop-at-smaller
loop-at-smaller c = next_below c.args.self.now c.args.hash c.loop-at.at c.in-Some.link.now c.requires.linked c.in-Some.ensures c.loop-at-test.true c.loop-at.invariant.1

pub loop-at-preserved : goal.loop-at-preserved
loop-at-preserved c = (
  next_gives c.args.self.now c.args.hash c.loop-at.at _ c.in-Some.link.now c.requires.linked c.in-Some.ensures c.loop-at-test.true c.if-link-hash.false c.loop-at.invariant.0 c.loop-at.invariant.1,
  next_kept c.args.self.now c.args.hash c.loop-at.at c.in-Some.link.now c.requires.linked c.in-Some.ensures c.loop-at-test.true c.loop-at.invariant.1,
)
