use Rattle.std.proofs.Common.{ap₂, ◌∙◌, arith}
use Rattle.std.specs.Prelude.{ℤ}
use Rattle.std.proofs.lemmas.Int.{ints}
use Rattle.stroke_build.specs.Outlines.{outward}
use Rattle.stroke_build.proofs.joins.outer_end.Goals as goal

pub returns : goal.returns
returns c = c.outward.ensures ∙ ap₂ (λ (x y : ℤ). outward c.args.a c.args.b x y) (omega (arith, ints)) (omega (arith, ints))
