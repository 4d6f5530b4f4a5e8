use Rattle.std.proofs.Common.{◌≡◌, ℕ, Bool, List, ap, ◌∙◌, sym, get_or, ◌∷◌, rules}
use Rattle.ps_shapes.specs.Span.{is_in, is_in_all}
use Rattle.ps_shapes.specs.Sheet.{Sheet}
use Rattle.ps_shapes.specs.declared.span.Span.{Span}
use Rattle.ps_paper.specs.Ink.{ink_of}
use Rattle.ps_paper.proofs.Painting.{clip_done, part_more, part_past, meets}
use Rattle.ps_paper.proofs.+paint_within.Goals as goal
use Rattle.ps_paper.proofs.+paint_within.Goals.{then-touches, else-touches}

pub loop-part-preserved : goal.loop-part-preserved
loop-part-preserved t c =
    let ink : ℕ → ℕ → Bool = ink_of c.args.gray.now.count c.args.thresholds.now in
    let zero : Span = record { row = 0; first = 0; past = 0 } in
    let xs = c.of_row-part-items.result.now in
    let k = c.loop-part.part-index in
    let rest : ℕ → ℕ → Bool = is_in_all c.in-Some.rest.now in
    elim c.if-touches.branch [
      | then-touches w ↦
          (let m = meets c.args.span (get_or xs k zero) (sym c.touches.ensures ∙ w.if-touches.true) in
          record {
            painted = ap (λ (s : Sheet). s) w.paper-is ∙ part_more c.args.paper.now c.loop-part.paper w.paint_within.new.paper c.args.span w.shared-both.result zero xs k rest ink c.loop-part-test.true m.0 w.shared-both.ensures c.loop-part.invariant.painted w.paint_within.ensures;
            width = ap (λ (s : Sheet). s.width) (w.paper-is ∙ w.paint_within.ensures) ∙ c.loop-part.invariant.width;
            height = ap (λ (s : Sheet). s.height) (w.paper-is ∙ w.paint_within.ensures) ∙ c.loop-part.invariant.height;
          })
      | else-touches w ↦
          (record {
            painted = w.paper-is ∙ part_past c.args.paper.now c.loop-part.paper c.args.span zero xs k rest ink c.loop-part-test.true (sym c.touches.ensures ∙ w.if-touches.false) c.loop-part.invariant.painted;
            width = ap (λ (s : Sheet). s.width) w.paper-is ∙ c.loop-part.invariant.width;
            height = ap (λ (s : Sheet). s.height) w.paper-is ∙ c.loop-part.invariant.height;
          })
    ]

pub returns-after-loop-part : goal.returns-after-loop-part
returns-after-loop-part t c =
    let ink : ℕ → ℕ → Bool = ink_of c.args.gray.now.count c.args.thresholds.now in
    let parts = c.of_row-part-items.result.now in
    let clip = c.in-Some.clip.now in
    let same : (x : ℕ) → is_in parts x c.args.span.row ≡ is_in clip x c.args.span.row = λ x. c.of_row-part-items.ensures.same x ∙ ap (λ (l : List Span). is_in l x c.args.span.row) c.as_slice.ensures.spans in
    let split : c.args.clips.now ≡ clip ∷ c.in-Some.rest.now = search rules in
    clip_done c.args.paper.now c.loop-part.paper c.args.span parts clip c.loop-part.part-index c.args.clips.now c.in-Some.rest.now ink c.loop-part-test.false same split c.loop-part.invariant.painted
