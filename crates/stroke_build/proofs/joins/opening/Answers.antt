use Rattle.std.proofs.Common.{◌∙◌, ◌≡◌, ap, ap₂, refl, rules}
use Rattle.std.specs.Prelude.{ℤ, ◌*ℤ◌}
use Rattle.std.proofs.lemmas.Int.{to_z-of_z}
use mir.Val.{SFits, to_z, of_z}
use mir.Syntax.{w32, w64, w128}
use Rattle.stroke_build.proofs.Joining.{opening_is}
use Rattle.stroke_build.proofs.joins.opening.Goals as goal

wide : (z : ℤ) → SFits w32 z → SFits w64 z
wide z f = search rules

widened : (z : ℤ) → SFits w32 z → to_z w64 (of_z w64 (to_z w32 (of_z w32 z))) ≡ z
widened z f = ap (λ (y : ℤ). to_z w64 (of_z w64 y)) (to_z-of_z w32 z f) ∙ to_z-of_z w64 z (wide z f)

pub returns-clause-value : goal.returns-clause-value
returns-clause-value c =
    let o : SFits w128 c.opening_of.result = search rules in
    let s : SFits w128 c.square.result = search rules in
    let d : SFits w128 c.sum_of.result = search rules in
    let x : SFits w128 c.product-across.result = search rules in
    let y : SFits w128 c.product-down.result = search rules in
    let ax : SFits w32 c.args.a.normal.x = search rules in
    let bx : SFits w32 c.args.b.normal.x = search rules in
    let ay : SFits w32 c.args.a.normal.y = search rules in
    let by : SFits w32 c.args.b.normal.y = search rules in
    opening_is c.args.radius c.args.a c.args.b _ _ _ _ _ c.args.a.normal.x c.args.b.normal.x c.args.a.normal.y c.args.b.normal.y (to_z-of_z w128 c.opening_of.result o ∙ c.opening_of.ensures.value)
    (to_z-of_z w128 c.square.result s ∙ c.square.ensures.value) (to_z-of_z w128 c.sum_of.result d ∙ c.sum_of.ensures.value)
    (to_z-of_z w128 c.product-across.result x ∙ c.product-across.ensures.value ∙ ap₂ ◌*ℤ◌ (widened c.args.a.normal.x ax) (widened c.args.b.normal.x bx)) (to_z-of_z w128 c.product-down.result y ∙ c.product-down.ensures.value ∙ ap₂ ◌*ℤ◌ (widened c.args.a.normal.y ay) (widened c.args.b.normal.y by))
    refl refl refl refl
