use Rattle.std.proofs.Common.{ap₂, arith}
use Rattle.std.specs.Prelude.{ℤ}
use Rattle.std.proofs.lemmas.Int.{ints}
use Rattle.stroke_build.specs.Outlines.{cap_by}
use Rattle.stroke_build.proofs.Drawn.{drawn_as}
use Rattle.stroke_build.proofs.ends.draw_start_cap.Goals as goal

pub returns : goal.returns
returns c =
    drawn_as _ _ _ _ _ (ap₂ (λ (x y : ℤ). cap_by c.args.cap c.args.ring.now c.args.side.from c.args.side.normal x y) (omega (arith, ints)) (omega (arith, ints))) c.draw_cap.ensures
