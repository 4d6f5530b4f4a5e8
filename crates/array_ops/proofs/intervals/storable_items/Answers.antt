use Rattle.std.proofs.Common.{◌≡◌, ◌<◌, ◌+◌, ◌-◌, Ok, sym, ap, ◌∙◌, arith, rules}
use Rattle.ps_operator.specs.Budgets.{storable}
use Rattle.ps_operator.specs.Tree.{reads}
use Rattle.array_ops.specs.Intervals.{storable_from}
use Rattle.array_ops.proofs.Moving.{item_passes, item_refused, one_more}
use Rattle.array_ops.proofs.intervals.storable_items.Goals as goal

pub returns-in-Err-clause-told : goal.returns-in-Err-clause-told
returns-in-Err-clause-told g c =
    let log = g.M.Mem.log in
    let l : c.loop-at.at < c.args.array.len = omega (arith, c.loop-at-test.true) in
    sym c.loop-at.invariant.told
    ∙ item_refused c.args.cell c.args.array c.loop-at.at c.loop-at.items (log c.loop-at.mem) l c.in_ok-item.item (log c.look_item.new.mem) c.in-Err.error c.in_ok-item.ensures.value c.in_ok-item.ensures.looked (sym c.in-Err.ensures)

pub loop-at-preserved : goal.loop-at-preserved
loop-at-preserved g c =
    let log = g.M.Mem.log in
    let l : c.loop-at.at < c.args.array.len = omega (arith, c.loop-at-test.true) in
    let x = c.in_ok-item.item in
    let i = c.loop-at.at in
    let right : storable c.args.cell x.kind ≡ Ok tt = search rules in
    record {
      told =
          ap (λ ys. reads (storable_from c.args.cell c.args.array (i + 1) (c.args.array.len - (i + 1)) ys) (log c.look_item.new.mem)) c.in_ok-push.ensures.ok
          ∙ sym (item_passes c.args.cell c.args.array i c.loop-at.items (log c.loop-at.mem) l x (log c.look_item.new.mem) c.in_ok-item.ensures.value c.in_ok-item.ensures.looked right)
          ∙ c.loop-at.invariant.told;
      length = one_more i c.loop-at.items x c.push.new.self c.loop-at.invariant.length c.in_ok-push.ensures.ok;
      view = search rules;
    }
