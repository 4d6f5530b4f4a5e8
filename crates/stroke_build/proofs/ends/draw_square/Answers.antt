use Rattle.std.proofs.Common.{ap₂, ◌∙◌, arith}
use Rattle.std.specs.Prelude.{ℤ}
use Rattle.std.proofs.lemmas.Int.{ints}
use Rattle.stroke_build.specs.Corners.{moved}
use Rattle.stroke_build.proofs.Drawn.{drawn_as}
use Rattle.stroke_build.proofs.Joining.{square_is}
use Rattle.stroke_build.proofs.ends.draw_square.Goals as goal

pub returns : goal.returns
returns c =
    let p = c.args.point in
    let n = c.args.normal in
    drawn_as _ _ _ _ _ (square_is p n c.args.x c.args.y c.around.result c.beyond.result c.beyond-2.result c.opposite.result c.around.ensures
    (c.beyond.ensures ∙ ap₂ (λ (x y : ℤ). moved p x y) (omega (arith, ints)) (omega (arith, ints)))
    (c.beyond-2.ensures ∙ ap₂ (λ (x y : ℤ). moved p x y) (omega (arith, ints)) (omega (arith, ints)))
    c.opposite.ensures) c.draw.ensures
