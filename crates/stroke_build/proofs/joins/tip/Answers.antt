use Rattle.std.proofs.Common.{◌∙◌, ap₂, arith, rules}
use Rattle.std.specs.Prelude.{◌+ℤ◌}
use Rattle.std.proofs.lemmas.Int.{ints, to_z-of_z}
use mir.Val.{SFits}
use mir.Syntax.{w32, w64, w128}
use Rattle.stroke_build.proofs.Joining.{tip_is}
use Rattle.stroke_build.proofs.joins.tip.Goals as goal

pub returns-clause-value : goal.returns-clause-value
returns-clause-value c =
    let n : SFits w128 c.nearest_quotient.result = search rules in
    let p : SFits w128 c.times.result = search rules in
    let s : SFits w64 c.sum.result = search rules in
    let m : SFits w128 c.square.result = search rules in
    let u : SFits w32 c.args.u = search rules in
    let v : SFits w32 c.args.v = search rules in
    let q : SFits w128 c.args.q = search rules in
    tip_is c.args.radius c.args.u c.args.v c.args.q _ _ _ _ _ (to_z-of_z w128 c.nearest_quotient.result n ∙ c.nearest_quotient.ensures.value)
    (to_z-of_z w128 c.times.result p ∙ c.times.ensures.value)
    (to_z-of_z w64 c.sum.result s ∙ c.sum.ensures.value ∙ ap₂ ◌+ℤ◌ (to_z-of_z w32 c.args.u u) (to_z-of_z w32 c.args.v v))
    (to_z-of_z w128 c.square.result m ∙ c.square.ensures.value) (omega (arith, ints))
