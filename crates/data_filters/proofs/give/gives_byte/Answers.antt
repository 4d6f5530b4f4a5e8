use Rattle.std.proofs.Common.{◌≡◌, suc, ◌-◌, arith}
use Rattle.data_filters.specs.declared.given.Given.TheVariants.{Byte, End, Bad}
use Rattle.data_filters.proofs.TakeLemmas.{copied_byte, pending_has}
use Rattle.data_filters.proofs.give.gives_byte.Goals as goal

pub returns-in-Byte-clause-value : goal.returns-in-Byte-clause-value
returns-in-Byte-clause-value c =
    copied_byte c.args.text.now c.args.layers.now c.args.source c.args.now.now c.copy_lowest.new.ahead _ (Byte c.in-Byte.field-0) c.requires.tower c.requires.stands
    c.copy_lowest.ensures.place c.copy_lowest.ensures.lowest c.in-Byte.ensures.yields

pub returns-in-End-clause-value : goal.returns-in-End-clause-value
returns-in-End-clause-value c =
    copied_byte c.args.text.now c.args.layers.now c.args.source c.args.now.now c.copy_lowest.new.ahead _ End c.requires.tower c.requires.stands
    c.copy_lowest.ensures.place c.copy_lowest.ensures.lowest c.in-End.ensures.yields

pub returns-in-Bad-clause-value : goal.returns-in-Bad-clause-value
returns-in-Bad-clause-value c =
    copied_byte c.args.text.now c.args.layers.now c.args.source c.args.now.now c.copy_lowest.new.ahead _ Bad c.requires.tower c.requires.stands
    c.copy_lowest.ensures.place c.copy_lowest.ensures.lowest c.in-Bad.ensures.yields

pub returns-then-has_pending-clause-value : goal.returns-then-has_pending-clause-value
returns-then-has_pending-clause-value c =
    let up : c.args.source ≡ suc (c.args.source - 1) = omega (arith, c.if-source-gt0.true) in
    pending_has c.args.text.now c.args.layers.now c.args.source (c.args.source - 1) c.args.now.now c.at.result.now c.requires.tower c.requires.stands up c.at.ensures c.if-has_pending.ensures
