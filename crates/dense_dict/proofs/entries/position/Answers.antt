use Rattle.std.proofs.Common.{sym, ◌∙◌}
use Rattle.dense_dict.proofs.Search.{search_begun, key_found, hash_there, older_below, search_goes_on}
use Rattle.dense_dict.proofs.entries.position.Goals as goal

pub loop-at-init : goal.loop-at-init
loop-at-init c = search_begun c.args.index.now c.args.entries.now c.args.key.now c.args.hash c.newest-at.result c.requires.indexed c.requires.hash c.newest-at.ensures

pub returns-then-has_key : goal.returns-then-has_key
returns-then-has_key c = key_found c.args.entries.now c.args.key.now _ (sym c.has_key.ensures ∙ c.if-has_key.true)

pub older-at-requires-clause-hash : goal.older-at-requires-clause-hash
older-at-requires-clause-hash c = hash_there c.args.index.now c.args.hash c.loop-at.at c.loop-at-test.true c.loop-at.invariant.1

pub loop-at-smaller : goal.loop-at-smaller
loop-at-smaller c = older_below c.args.index.now c.args.hash c.loop-at.at c.older-at.result c.loop-at-test.true c.older-at.ensures

pub loop-at-preserved : goal.loop-at-preserved
loop-at-preserved c = search_goes_on c.args.index.now c.args.entries.now c.args.key.now c.args.hash c.loop-at.at c.older-at.result c.requires.indexed c.requires.hash c.loop-at.invariant c.loop-at-test.true (sym c.has_key.ensures ∙ c.if-has_key.false) c.older-at.ensures
