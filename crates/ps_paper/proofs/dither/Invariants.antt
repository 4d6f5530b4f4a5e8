use Rattle.std.proofs.Common.{◌≡◌}
use Rattle.ps_shapes.specs.Sheet.{repainted}
use Rattle.ps_shapes.specs.Span.{holds}
use Rattle.ps_paper.specs.Ink.{ink_of}
use Rattle.ps_paper.proofs.dither.Given as goal

abbrev pub invariant-loop-x : goal.invariant-loop-x
invariant-loop-x l = record {
  painted : l.paper ≡ repainted l.fn.paper (λ x y. holds x y (record { row = l.span.row; first = l.span.first; past = l.x })) (ink_of l.fn.gray.count l.fn.thresholds);
  width : l.paper.width ≡ l.fn.paper.width;
  height : l.paper.height ≡ l.fn.paper.height;
}
