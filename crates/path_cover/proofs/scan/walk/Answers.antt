use Rattle.std.proofs.Common.{◌≡◌, ◌+◌, ◌∙◌, ℕ, Bool, ap, sym, List, true, false, nat_eq, nat_lt, ◌&&◌, ◌||◌, length, drop, arith}
use Rattle.std.specs.Prelude.{count_by}
use Rattle.ps_shapes.specs.Span.{is_in}
use Rattle.path_cover.specs.Cover.{is_inside}
use Rattle.path_cover.specs.Marks.{marks, marked}
use Rattle.path_cover.specs.declared.edge.Edge.{Edge}
use Rattle.path_cover.proofs.Scanning.{none_yet, none_left, done_parts, count_done, row_more}
use Rattle.path_cover.proofs.scan.walk.Goals as goal

pub loop-row-init : goal.loop-row-init
loop-row-init c = record {
  next = omega arith;
  kept = λ down x y h. (let e : count_by (marks down x y) c.new-active.result.items ≡ 0 = ap (λ (l : List Edge). count_by (marks down x y) l) c.new-active.ensures.items in omega (arith, e));
  done = λ x y p q. none_yet c.args.odd c.args.edges.now x y c.start-row.result (is_in c.args.spans.now.items x y) c.start-row.ensures;
  place = λ raw. raw;
}

pub returns-then-is_done-clause-exact : goal.returns-then-is_done-clause-exact
returns-then-is_done-clause-exact c = λ x y p q.
    let es = c.args.edges.now in
    let v = c.loop-row.invariant in
    let d = done_parts c.loop-row.next es c.as_slice.result.now (sym c.is_done.ensures ∙ c.if-is_done.true) in
    let e : length c.loop-row.active.items ≡ 0 = ap length (sym c.as_slice.ensures.value) ∙ d.1 in
    v.done x y p q ∙ none_left c.args.odd es x y c.loop-row.row (is_in c.args.spans.now.items x y)
    (λ h down. count_done down x y c.loop-row.next es c.loop-row.active.items (count_by (marks down x y) es) d.0 e (v.kept down x y h))

pub loop-row-preserved : goal.loop-row-preserved
loop-row-preserved c =
    let es = c.args.edges.now in
    let v = c.loop-row.invariant in
    let row = c.loop-row.row in
    record {
      next = c.in_ok-next.ensures.next;
      kept = λ down x y h. c.in_ok-next.ensures.kept down x y (omega arith) ∙ v.kept down x y (omega arith);
      done = λ x y p q.
          let o = is_in c.args.spans.now.items x y in
          let sum : Bool → ℕ = λ down. count_by (marks down x row) c.loop-row.active.items + count_by (marks down x row) (drop c.loop-row.next es) in
          let all : (down : Bool) → sum down ≡ count_by (marks down x row) es = λ down. v.kept down x row (omega arith) in
          c.in_ok-next.ensures.exact x y p
          ∙ ap (λ b. b || (nat_eq row y && is_inside c.args.odd (sum true) (sum false))) (v.done x y p q)
          ∙ ap (λ n. (o || (nat_lt y row && marked c.args.odd es x y)) || (nat_eq row y && is_inside c.args.odd n (sum false))) (all true)
          ∙ ap (λ n. (o || (nat_lt y row && marked c.args.odd es x y)) || (nat_eq row y && is_inside c.args.odd (count_by (marks true x row) es) n)) (all false)
          ∙ row_more o (marked c.args.odd es x y) (marked c.args.odd es x row) y row (λ e. ap (marked c.args.odd es x) e);
      place = λ raw. c.in_ok-next.ensures.place c.args.height (omega arith) (v.place raw);
    }
