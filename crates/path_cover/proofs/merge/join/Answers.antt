use Rattle.std.proofs.Common.{◌≡◌, ◌<◌, ◌+◌, ◌∙◌, ◌++◌, ◌∷◌, [], List, get_or, length, ap, subst, sym, nat_eq, false, ◌≢◌, arith}
use Rattle.std.proofs.lemmas.Bool.{eqb-false}
use Rattle.ps_shapes.specs.declared.span.Span.{Span}
use Rattle.ps_shapes.specs.Span.{is_in}
use Rattle.path_cover.specs.Scattered.{joined_of}
use Rattle.path_cover.proofs.Merging.{Joining, joining_more, joining_next, joining_all}
use Rattle.path_cover.proofs.merge.join.Goals as goal
use Rattle.path_cover.proofs.merge.join.Goals.{then-joins, else-joins+in_ok-push}

pub loop-span-preserved : goal.loop-span-preserved
loop-span-preserved c =
    let zero : Span = record { row = 0; first = 0; past = 0 } in
    let ss = c.args.spans.now in
    let first = get_or ss 0 zero in
    let i = c.loop-span.span-index in
    let w = c.args.width in
    let h = c.args.height in
    elim c.if-joins.branch [
      | then-joins v ↦ (
          let next : Joining ss c.loop-span.merged (joined_of c.loop-span.run (get_or ss i zero)) first (i + 1) w h = joining_more ss c.loop-span.merged c.loop-span.run first zero i w h c.loop-span-test.true c.requires.raw (sym c.joins.ensures ∙ v.if-joins.true) c.loop-span.invariant in
          subst (λ (m : List Span). Joining ss m c.if-joins.run first (i + 1) w h) (sym v.merged-is)
          (subst (λ (r : Span). Joining ss c.loop-span.merged r first (i + 1) w h) (sym (v.run-is ∙ v.joined-run.ensures)) next))
      | else-joins+in_ok-push v ↦ (
          let next : Joining ss (c.loop-span.merged ++ c.loop-span.run ∷ []) (get_or ss i zero) first (i + 1) w h = joining_next ss c.loop-span.merged c.loop-span.run first zero i w h c.loop-span-test.true (omega arith) c.requires.sorted c.requires.raw (sym c.joins.ensures ∙ v.if-joins.false) c.loop-span.invariant in
          subst (λ (m : List Span). Joining ss m c.if-joins.run first (i + 1) w h) (sym (v.merged-is ∙ v.in_ok-push.ensures.ok))
          (subst (λ (r : Span). Joining ss (c.loop-span.merged ++ c.loop-span.run ∷ []) r first (i + 1) w h) (sym v.run-is) next))
    ]

pub returns-clause-exact : goal.returns-clause-exact
returns-clause-exact c = λ x y.
    let zero : Span = record { row = 0; first = 0; past = 0 } in
    let none : nat_eq (length c.args.spans.now) 0 ≡ false = sym c.is_empty.ensures ∙ c.if-is_empty.false in
    let some : length c.args.spans.now ≢ 0 = eqb-false (length c.args.spans.now) 0 none in
    let full : 0 < length c.args.spans.now = omega arith in
    ap (λ (l : List Span). is_in l x y) c.in_ok-push-2.ensures.ok ∙ joining_all c.args.spans.now c.loop-span.merged c.loop-span.run zero c.loop-span.span-index c.args.width c.args.height full c.loop-span-test.false c.loop-span.invariant x y
