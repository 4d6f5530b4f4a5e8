use Rattle.std.proofs.Common.{take, ◌≡◌, ◌&&◌}
use Rattle.ps_shapes.specs.Sheet.{repainted}
use Rattle.ps_shapes.specs.Span.{is_in, is_in_all}
use Rattle.ps_paper.specs.Ink.{ink_of}
use Rattle.ps_paper.proofs.paint_each.Given as goal

abbrev pub invariant-loop-span : goal.invariant-loop-span
invariant-loop-span l = record {
  painted : l.paper ≡ repainted l.fn.paper (λ x y. is_in (take l.span-index l.spans) x y && is_in_all l.fn.clips x y) (ink_of l.fn.gray.count l.fn.thresholds);
  width : l.paper.width ≡ l.fn.paper.width;
  height : l.paper.height ≡ l.fn.paper.height;
}
