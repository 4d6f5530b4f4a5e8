use Rattle.std.proofs.Common.{◌≡◌, pos, ◌+ℤ◌, ◌-ℤ◌, ◌*ℤ◌, ◌≤ℤ◌, ◌<ℤ◌, int_le, ap, sym, ◌∙◌, w32, w64, to_z, of_z, rules, arith}
use mir.Val.{SFits}
use Rattle.std.proofs.lemmas.Int.{ints, to_z-of_z}
use Rattle.path_cover.specs.Cover.{centre}
use Rattle.path_cover.proofs.edge.Edge.column.Goals as goal

pub rise-requires-clause-order : goal.rise-requires-clause-order
rise-requires-clause-order c =
    let e = c.args.self.now in
    let a : e.top.y ≤ℤ centre c.args.row = e.rows.above c.args.row c.requires.first c.requires.past in
    let b : centre c.args.row <ℤ e.bottom.y = e.rows.below c.args.row c.requires.first c.requires.past in
    let f : SFits w32 e.top.y = search rules in
    let g : SFits w32 e.bottom.y = search rules in
    omega (arith, ints)

pub returns-clause-least : goal.returns-clause-least
returns-clause-least c = λ x h.
    let e = c.args.self.now in
    let f : SFits w32 e.top.y = search rules in
    let g : SFits w32 e.bottom.y = search rules in
    let i : SFits w32 e.top.x = search rules in
    let j : SFits w32 e.bottom.x = search rules in
    let m : SFits w64 c.below.result = search rules in
    let n : SFits w64 c.above.result = search rules in
    let p : SFits w64 c.product-left.result = search rules in
    let q : SFits w64 c.product-right.result = search rules in
    let s : SFits w64 c.sum.result = search rules in
    let below : c.below.result ≡ e.bottom.y -ℤ centre c.args.row = c.below.ensures.value ∙ ap (λ z. z -ℤ centre c.args.row) (to_z-of_z w32 e.bottom.y g) in
    let above : c.above.result ≡ centre c.args.row -ℤ e.top.y = c.above.ensures.value ∙ ap (λ z. centre c.args.row -ℤ z) (to_z-of_z w32 e.top.y f) in
    let left : c.product-left.result ≡ e.top.x *ℤ (e.bottom.y -ℤ centre c.args.row) = c.product-left.ensures.value ∙ ap (λ z. z *ℤ to_z w64 (of_z w64 c.below.result)) (to_z-of_z w32 e.top.x i) ∙ ap (λ z. e.top.x *ℤ z) (to_z-of_z w64 c.below.result m ∙ below) in
    let right : c.product-right.result ≡ e.bottom.x *ℤ (centre c.args.row -ℤ e.top.y) = c.product-right.ensures.value ∙ ap (λ z. z *ℤ to_z w64 (of_z w64 c.above.result)) (to_z-of_z w32 e.bottom.x j) ∙ ap (λ z. e.bottom.x *ℤ z) (to_z-of_z w64 c.above.result n ∙ above) in
    let sum : c.sum.result ≡ e.top.x *ℤ (e.bottom.y -ℤ centre c.args.row) +ℤ e.bottom.x *ℤ (centre c.args.row -ℤ e.top.y) =
    c.sum.ensures.value ∙ ap (λ z. z +ℤ to_z w64 (of_z w64 c.product-right.result)) (to_z-of_z w64 c.product-left.result p ∙ left) ∙ ap (λ z. e.top.x *ℤ (e.bottom.y -ℤ centre c.args.row) +ℤ z) (to_z-of_z w64 c.product-right.result q ∙ right) in
    let rise : pos c.rise.result ≡ e.bottom.y -ℤ e.top.y = sym c.rise.ensures.value ∙ ap (λ z. z -ℤ to_z w32 (of_z w32 e.top.y)) (to_z-of_z w32 e.bottom.y g) ∙ ap (λ z. e.bottom.y -ℤ z) (to_z-of_z w32 e.top.y f) in
    c.column_at.ensures.least x h
    ∙ ap (λ z. int_le z (centre x *ℤ pos c.rise.result)) (to_z-of_z w64 c.sum.result s ∙ sum)
    ∙ ap (λ z. int_le (e.top.x *ℤ (e.bottom.y -ℤ centre c.args.row) +ℤ e.bottom.x *ℤ (centre c.args.row -ℤ e.top.y)) (centre x *ℤ z)) rise
