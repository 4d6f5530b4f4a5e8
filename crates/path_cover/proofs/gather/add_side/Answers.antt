use Rattle.std.proofs.Common.{◌∙◌, ap, refl, w32, rules}
use Rattle.std.specs.Prelude.{int_le, count_by}
use mir.Val.{SFits}
use Rattle.std.proofs.lemmas.Int.{to_z-of_z}
use Rattle.path_cover.specs.Cover.{centre}
use Rattle.path_cover.specs.Marks.{marks}
use Rattle.path_cover.proofs.Sides.{rows_between, pushed_down, pushed_up, pushed_none}
use Rattle.path_cover.proofs.gather.add_side.Goals as goal

pub invariant_of-push : goal.invariant_of-push
invariant_of-push c =
    let f : SFits w32 c.args.from.y = search rules in
    let g : SFits w32 c.args.to.y = search rules in
    record {
      rows = rows_between c.args.from c.args.to c.row_at-start.result c.row_at-end.result c.args.height
          (λ row h. c.row_at-start.ensures.least row h ∙ ap (λ z. int_le z (centre row)) (to_z-of_z w32 c.args.from.y f))
          (λ row h. c.row_at-end.ensures.least row h ∙ ap (λ z. int_le z (centre row)) (to_z-of_z w32 c.args.to.y g)) c.row_at-end.ensures.capped;
    }

pub invariant_of-push-then-end-start : goal.invariant_of-push-then-end-start
invariant_of-push-then-end-start c =
    let f : SFits w32 c.args.from.y = search rules in
    let g : SFits w32 c.args.to.y = search rules in
    record {
      rows = rows_between c.args.to c.args.from c.row_at-end.result c.row_at-start.result c.args.height
          (λ row h. c.row_at-end.ensures.least row h ∙ ap (λ z. int_le z (centre row)) (to_z-of_z w32 c.args.to.y g))
          (λ row h. c.row_at-start.ensures.least row h ∙ ap (λ z. int_le z (centre row)) (to_z-of_z w32 c.args.from.y f)) c.row_at-start.ensures.capped;
    }

pub returns-in_ok-push : goal.returns-in_ok-push
returns-in_ok-push c = λ down x y h.
    let f : SFits w32 c.args.from.y = search rules in
    let g : SFits w32 c.args.to.y = search rules in
    ap (count_by (marks down x y)) c.in_ok-push.ensures.items
    ∙ pushed_down down x y c.args.height c.args.edges.now.items _ h refl c.if-start-end.true
    (λ row h. c.row_at-start.ensures.least row h ∙ ap (λ z. int_le z (centre row)) (to_z-of_z w32 c.args.from.y f))
    (λ row h. c.row_at-end.ensures.least row h ∙ ap (λ z. int_le z (centre row)) (to_z-of_z w32 c.args.to.y g))

pub returns-in_ok-push-2 : goal.returns-in_ok-push-2
returns-in_ok-push-2 c = λ down x y h.
    let f : SFits w32 c.args.from.y = search rules in
    let g : SFits w32 c.args.to.y = search rules in
    ap (count_by (marks down x y)) c.in_ok-push-2.ensures.items
    ∙ pushed_up down x y c.args.height c.args.edges.now.items _ h refl c.if-end-start.true
    (λ row h. c.row_at-end.ensures.least row h ∙ ap (λ z. int_le z (centre row)) (to_z-of_z w32 c.args.to.y g))
    (λ row h. c.row_at-start.ensures.least row h ∙ ap (λ z. int_le z (centre row)) (to_z-of_z w32 c.args.from.y f))

pub returns-else-end-start : goal.returns-else-end-start
returns-else-end-start c = λ down x y h.
    let f : SFits w32 c.args.from.y = search rules in
    let g : SFits w32 c.args.to.y = search rules in
    pushed_none down x y c.args.height c.args.from c.args.to c.row_at-start.result c.row_at-end.result (count_by (marks down x y) c.args.edges.now.items) h c.if-end-start.false c.if-start-end.false
    (λ row h. c.row_at-start.ensures.least row h ∙ ap (λ z. int_le z (centre row)) (to_z-of_z w32 c.args.from.y f))
    (λ row h. c.row_at-end.ensures.least row h ∙ ap (λ z. int_le z (centre row)) (to_z-of_z w32 c.args.to.y g))
