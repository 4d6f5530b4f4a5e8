use Rattle.std.proofs.Common.{◌≡◌, ◌+◌, ◌∙◌, ℕ, Bool, ap, List, true, false, nat_eq, ◌&&◌, ◌||◌, drop, arith}
use Rattle.std.specs.Prelude.{count_by}
use Rattle.ps_shapes.specs.Span.{is_in}
use Rattle.path_cover.specs.Cover.{is_inside}
use Rattle.path_cover.specs.Marks.{marks}
use Rattle.path_cover.specs.declared.edge.Edge.{Edge}
use Rattle.path_cover.proofs.scan.step.Goals as goal

pub returns-clause-exact : goal.returns-clause-exact
returns-clause-exact c = λ x y h.
    let o = is_in c.args.spans.now.items x y in
    let row = c.args.line.row in
    let sum : Bool → ℕ = λ down. count_by (marks down x row) c.args.active.now.items + count_by (marks down x row) (drop c.args.next c.args.edges.now) in
    let same : (down : Bool) → count_by (marks down x row) c.as_slice.result.now ≡ sum down =
    λ down.
    let a : count_by (marks down x row) c.as_slice.result.now ≡ count_by (marks down x row) c.retire.new.active.items = ap (λ (l : List Edge). count_by (marks down x row) l) c.as_slice.ensures.value in
    let b : count_by (marks down x row) c.retire.new.active.items ≡ count_by (marks down x row) c.enter.new.active.items = c.retire.ensures down x row (omega arith) in
    omega (arith, a, b, c.in_ok-below.ensures.kept down x row, c.in_ok-below.ensures.rest down x) in
    c.in_ok-add_line.ensures.exact x y h
    ∙ ap (λ n. o || (nat_eq row y && is_inside c.args.line.odd n (count_by (marks false x row) c.as_slice.result.now))) (same true)
    ∙ ap (λ n. o || (nat_eq row y && is_inside c.args.line.odd (sum true) n)) (same false)
