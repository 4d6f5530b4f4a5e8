use Rattle.std.specs.Prelude.{count_by}
use Rattle.path_cover.specs.Marks.{marks}
use Rattle.path_cover.proofs.Sides.{next_side, no_side}
use Rattle.path_cover.proofs.gather.gather_after.Goals as goal

pub loop-to-preserved : goal.loop-to-preserved
loop-to-preserved c = λ down x y h.
    next_side down x y c.loop-to.from c.args.points.now c.loop-to.to-index c.to-item.result (count_by (marks down x y) c.loop-to.edges.items) _ _ c.loop-to-test.true c.to-item.is (c.loop-to.invariant down x y h) (c.in_ok-add_side.ensures down x y h)

pub returns : goal.returns
returns c = λ down x y h. no_side down x y c.loop-to.from c.args.points.now c.loop-to.to-index _ _ c.loop-to-test.false (c.loop-to.invariant down x y h)
