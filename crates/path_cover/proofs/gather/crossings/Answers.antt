use Rattle.std.proofs.Common.{◌∙◌, ap, sym, List}
use Rattle.std.specs.Prelude.{count_by}
use Rattle.path_cover.specs.Marks.{marks, crosses}
use Rattle.path_cover.specs.declared.crossing.Crossing.{Crossing}
use Rattle.path_cover.specs.declared.edge.Edge.{Edge}
use Rattle.std.proofs.lemmas.List.{take_all}
use Rattle.path_cover.proofs.Sides.{crossing_more, crossing_none}
use Rattle.path_cover.proofs.gather.crossings.Goals as goal
use Rattle.path_cover.proofs.gather.crossings.Goals.{then-is_in_row+in_ok-push, else-is_in_row}

pub loop-edge-preserved : goal.loop-edge-preserved
loop-edge-preserved c = λ down x h.
    elim c.if-is_in_row.branch [
      | then-is_in_row+in_ok-push w ↦ (ap (λ v. count_by (crosses down x) v.items) w.out-is ∙ ap (λ (l : List Crossing). count_by (crosses down x) l) w.in_ok-push.ensures.items ∙ crossing_more down x c.args.row w.column.result c.args.active.now c.loop-edge.edge-index c.edge-item.result c.loop-edge.out.items c.loop-edge-test.true c.edge-item.is (sym c.is_in_row.ensures ∙ w.if-is_in_row.true) (w.column.ensures.least x h) (c.loop-edge.invariant down x h))
      | else-is_in_row w ↦ (ap (λ v. count_by (crosses down x) v.items) w.out-is ∙ crossing_none down x c.args.row c.args.active.now c.loop-edge.edge-index c.edge-item.result (count_by (crosses down x) c.loop-edge.out.items) c.loop-edge-test.true c.edge-item.is (sym c.is_in_row.ensures ∙ w.if-is_in_row.false) (c.loop-edge.invariant down x h))
    ]

pub returns : goal.returns
returns c = λ down x h. c.loop-edge.invariant down x h ∙ ap (λ (l : List Edge). count_by (marks down x c.args.row) l) (take_all c.loop-edge.edge-index c.args.active.now c.loop-edge-test.false)
