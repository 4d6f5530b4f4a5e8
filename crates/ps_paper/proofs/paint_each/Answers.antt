use Rattle.std.proofs.Common.{ℕ, Bool, ap, ◌∙◌}
use Rattle.ps_shapes.specs.Span.{is_in_all}
use Rattle.ps_shapes.specs.Sheet.{Sheet}
use Rattle.ps_shapes.specs.declared.span.Span.{Span}
use Rattle.ps_paper.specs.Ink.{ink_of}
use Rattle.ps_paper.proofs.Painting.{span_more}
use Rattle.ps_paper.proofs.paint_each.Goals as goal

pub loop-span-preserved : goal.loop-span-preserved
loop-span-preserved c =
    let ink : ℕ → ℕ → Bool = ink_of c.args.gray.now.count c.args.thresholds.now in
    let zero : Span = record { row = 0; first = 0; past = 0 } in
    record {
      painted = span_more c.args.paper.now c.loop-span.paper c.paint_within.new.paper zero c.args.spans.now c.loop-span.span-index (is_in_all c.args.clips.now) ink c.loop-span-test.true c.loop-span.invariant.painted c.paint_within.ensures;
      width = ap (λ (s : Sheet). s.width) c.paint_within.ensures ∙ c.loop-span.invariant.width;
      height = ap (λ (s : Sheet). s.height) c.paint_within.ensures ∙ c.loop-span.invariant.height;
    }
