use Rattle.data_filters.proofs.TakeLemmas.{looked}
use Rattle.data_filters.proofs.give.look.Goals as goal

pub returns-clause-value : goal.returns-clause-value
returns-clause-value c =
    looked c.args.text.now c.args.layers.now c.args.layer c.args.now.now c.copy_lowest.new.ahead c.at.result.now c.index-layers-layer.result c.index-layers-layer-2.result
    c.next_code.result.code c.requires.tower c.requires.stands c.copy_lowest.ensures.place c.copy_lowest.ensures.lowest c.at.ensures c.next_code.ensures.found.code_is
