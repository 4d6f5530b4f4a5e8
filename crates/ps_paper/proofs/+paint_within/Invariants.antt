use Rattle.std.proofs.Common.{length, take, ◌≡◌, ◌&&◌}
use Rattle.ps_shapes.specs.Sheet.{repainted}
use Rattle.ps_shapes.specs.Span.{holds, is_in, is_in_all}
use Rattle.ps_paper.specs.Ink.{ink_of}
use Rattle.ps_paper.proofs.+paint_within.Given as goal

abbrev pub decreases-paint_within : goal.decreases-paint_within
decreases-paint_within l = length l.clips.now

abbrev pub invariant-loop-part : goal.invariant-loop-part
invariant-loop-part l = record {
  painted : l.paper ≡ repainted l.fn.paper (λ x y. holds x y l.span && (is_in (take l.part-index l.part-items) x y && is_in_all l.rest x y)) (ink_of l.fn.gray.count l.fn.thresholds);
  width : l.paper.width ≡ l.fn.paper.width;
  height : l.paper.height ≡ l.fn.paper.height;
}
