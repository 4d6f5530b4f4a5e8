use Rattle.std.proofs.Common.{ap₂, ◌∙◌, arith}
use Rattle.std.specs.Prelude.{ℤ}
use Rattle.std.proofs.lemmas.Int.{ints}
use Rattle.stroke_build.specs.Corners.{moved}
use Rattle.stroke_build.proofs.corner.opposite.Goals as goal

pub returns : goal.returns
returns c = c.moved.ensures ∙ ap₂ (λ (x y : ℤ). moved c.args.point x y) (omega (arith, ints)) (omega (arith, ints))
