use Rattle.std.proofs.Common.{◌<◌, get_or, inl, inr, arith}
use Rattle.std.proofs.lemmas.Bool.{cases_lt}
use Rattle.ps_shapes.specs.declared.span.Span.{Span}
use Rattle.ps_paper.proofs.Windows.{rows_in_order}
use Rattle.ps_paper.proofs.rows.places.Goals as goal

pub first_in-start-requires : goal.first_in-start-requires
first_in-start-requires c = rows_in_order _ c.requires

pub first_below-past-requires : goal.first_below-past-requires
first_below-past-requires c = rows_in_order _ c.requires

pub returns-clause-order : goal.returns-clause-order
returns-clause-order c =
    let d : Span = record { row = 0; first = 0; past = 0 } in
    let spans = c.args.spans.now in
    let start = c.first_in-start.result in
    let past = c.first_below-past.result in
    elim (cases_lt past start) [
      | inl h ↦
          (let low : (get_or spans past d).row < c.args.row = c.first_in-start.ensures.above past d (omega arith) h in
          let high : c.args.row < (get_or spans past d).row = c.first_below-past.ensures.rest past d (omega arith) (omega (arith, c.first_in-start.ensures.bound)) in
          absurd (omega arith))
      | inr h ↦ h
    ]
