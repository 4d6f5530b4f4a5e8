-- Part by part.
use Rattle.std.proofs.Common.{arith, rules, ap, ap₂, ◌∙◌, ◌≡◌, w32, w64}
use Rattle.std.specs.Prelude.{ℤ, pos, neg_ℤ, ◌-ℤ◌}
use Rattle.std.proofs.lemmas.Int.{ints, to_z-of_z}
use mir.Val.{SFits, to_z, of_z}
use Rattle.stroke_build.specs.Sides.{share, length_of}
use Rattle.stroke_build.proofs.Walks.{side_is}
use Rattle.stroke_build.proofs.side.side_from.Goals as goal

pub share-across-requires-clause-within : goal.share-across-requires-clause-within
share-across-requires-clause-within c = omega (arith, ints)

pub returns : goal.returns
returns c =
    let r = c.args.radius in
    let dx = c.difference-dx.result in
    let dy = c.difference-dy.result in
    let l = c.length-length.result in
    let fx : SFits w64 dx = search rules in
    let fy : SFits w64 dy = search rules in
    let ax : SFits w32 c.share-right.result = search rules in
    let ay : SFits w32 c.share-below.result = search rules in
    let nx : SFits w32 c.share-across.result = search rules in
    let tx : SFits w32 c.args.to.x = search rules in
    let ty : SFits w32 c.args.to.y = search rules in
    let ox : SFits w32 c.args.from.x = search rules in
    let oy : SFits w32 c.args.from.y = search rules in
    let opposite : to_z w64 (of_z w64 (pos 0 -ℤ to_z w64 (of_z w64 dy))) ≡ neg_ℤ dy = omega (arith, ints) in
    side_is r c.args.from c.args.to dx dy l _ _ _ _
    (c.difference-dx.ensures.value ∙ ap₂ ◌-ℤ◌ (to_z-of_z w32 c.args.to.x tx) (to_z-of_z w32 c.args.from.x ox))
    (c.difference-dy.ensures.value ∙ ap₂ ◌-ℤ◌ (to_z-of_z w32 c.args.to.y ty) (to_z-of_z w32 c.args.from.y oy))
    (c.length-length.ensures.value ∙ ap₂ length_of (to_z-of_z w64 dx fx) (to_z-of_z w64 dy fy))
    (to_z-of_z w32 c.share-right.result ax ∙ c.share-right.ensures ∙ ap (λ (z : ℤ). share z r l) (to_z-of_z w64 dx fx))
    (to_z-of_z w32 c.share-below.result ay ∙ c.share-below.ensures ∙ ap (λ (z : ℤ). share z r l) (to_z-of_z w64 dy fy))
    (to_z-of_z w32 c.share-across.result nx ∙ c.share-across.ensures ∙ ap (λ (z : ℤ). share z r l) opposite)
    (to_z-of_z w32 c.share-right.result ax ∙ c.share-right.ensures ∙ ap (λ (z : ℤ). share z r l) (to_z-of_z w64 dx fx))
