use Rattle.std.proofs.Common.{◌≡◌, ◌+◌, ◌∙◌, ◌||◌, Bool, true, false, List, ap, sym}
use Rattle.std.specs.Prelude.{count_by, sum_by}
use Rattle.std.proofs.lemmas.List.{take_all}
use Rattle.ps_shapes.specs.declared.polygon.Point.{Point}
use Rattle.path_cover.specs.Cover.{counted, is_inside}
use Rattle.ps_shapes.specs.declared.span.Span.{Span}
use Rattle.ps_shapes.specs.Span.{is_in}
use Rattle.path_cover.specs.Marks.{marks, marked}
use Rattle.path_cover.proofs.Polygons.{sum_more}
use Rattle.path_cover.proofs.together.Goals as goal

pub loop-polygon-preserved : goal.loop-polygon-preserved
loop-polygon-preserved c = λ down x y h.
    let ps = c.args.polygons.now in
    let i = c.loop-polygon.polygon-index in
    c.in_ok-gather.ensures down x y h
    ∙ ap (λ (p : List Point). count_by (marks down x y) c.loop-polygon.edges.items + counted down x y p) c.as_slice.ensures
    ∙ ap (λ n. n + counted down x y c.polygon-item.result) (c.loop-polygon.invariant down x y h)
    ∙ sym (sum_more down x y ps i c.polygon-item.result c.loop-polygon-test.true c.polygon-item.is)

pub returns-clause-exact : goal.returns-clause-exact
returns-clause-exact c = λ x y p q.
    let ps = c.args.polygons.now in
    let all : (down : Bool) → count_by (marks down x y) c.loop-polygon.edges.items ≡ sum_by (counted down x y) ps =
    λ down. c.loop-polygon.invariant down x y q ∙ ap (λ (l : List (List Point)). sum_by (counted down x y) l) (take_all c.loop-polygon.polygon-index ps c.loop-polygon-test.false) in
    c.in_ok-scan.ensures.exact x y p q
    ∙ ap (λ (l : List Span). is_in l x y || marked c.args.odd c.loop-polygon.edges.items x y) c.new-spans.ensures.items
    ∙ ap (λ n. is_inside c.args.odd n (count_by (marks false x y) c.loop-polygon.edges.items)) (all true)
    ∙ ap (λ n. is_inside c.args.odd (sum_by (counted true x y) ps) n) (all false)
