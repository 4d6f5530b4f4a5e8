use Rattle.std.proofs.Common.{◌≡◌, ◌∙◌, Bool, ap, List, true, false, nat_eq, ◌&&◌, ◌||◌}
use Rattle.std.specs.Prelude.{count_by}
use Rattle.ps_shapes.specs.Span.{is_in}
use Rattle.path_cover.specs.Cover.{is_inside}
use Rattle.path_cover.specs.Marks.{marks, crosses}
use Rattle.path_cover.specs.declared.crossing.Crossing.{Crossing}
use Rattle.path_cover.proofs.scan.add_line.Goals as goal

pub returns-clause-exact : goal.returns-clause-exact
returns-clause-exact c = λ x y h.
    let o = is_in c.args.spans.now.items x y in
    let same : (down : Bool) → count_by (crosses down x) c.as_slice.result.now ≡ count_by (marks down x c.args.line.row) c.args.active.now =
    λ down. ap (λ (l : List Crossing). count_by (crosses down x) l) c.as_slice.ensures.value ∙ c.sort_crossings.ensures.same down x ∙ c.in_ok-crossings.ensures down x h in
    c.in_ok-sweep.ensures.exact x y h
    ∙ ap (λ n. o || (nat_eq c.args.line.row y && is_inside c.args.line.odd n (count_by (crosses false x) c.as_slice.result.now))) (same true)
    ∙ ap (λ n. o || (nat_eq c.args.line.row y && is_inside c.args.line.odd (count_by (marks true x c.args.line.row) c.args.active.now) n)) (same false)
