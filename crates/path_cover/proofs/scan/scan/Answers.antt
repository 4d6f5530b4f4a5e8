use Rattle.std.proofs.Common.{◌≡◌, ◌∙◌, Bool, ap, List, true, false, ◌||◌, arith}
use Rattle.std.specs.Prelude.{count_by}
use Rattle.ps_shapes.specs.Span.{is_in}
use Rattle.path_cover.specs.Cover.{is_inside}
use Rattle.path_cover.specs.Marks.{marks}
use Rattle.path_cover.specs.declared.edge.Edge.{Edge}
use Rattle.path_cover.proofs.scan.scan.Goals as goal

pub returns-clause-exact : goal.returns-clause-exact
returns-clause-exact c = λ x y p q.
    let o = is_in c.args.spans.now.items x y in
    let same : (down : Bool) → count_by (marks down x y) c.as_slice.result.now ≡ count_by (marks down x y) c.args.edges.now.items =
    λ down. ap (λ (l : List Edge). count_by (marks down x y) l) c.as_slice.ensures.value ∙ c.sort_edges.ensures.same down x y (omega arith) in
    c.in_ok-walk.ensures.exact x y p q
    ∙ ap (λ n. o || is_inside c.args.odd n (count_by (marks false x y) c.as_slice.result.now)) (same true)
    ∙ ap (λ n. o || is_inside c.args.odd (count_by (marks true x y) c.args.edges.now.items) n) (same false)
