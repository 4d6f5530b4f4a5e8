use Rattle.std.proofs.Common.{◌≡◌, ◌/◌, ◌+◌, ◌*◌, ◌<◌, ap, subst, sym, ◌∙◌, length, get_or, arith}
use Rattle.std.proofs.lemmas.List.{get_or_default}
use Rattle.ps_shapes.specs.Bits.{bit, dot_of}
use Rattle.ps_shapes.specs.Sheet.{Sheet, drawn, pixel}
use Rattle.ps_shapes.proofs.Drawn.{pixel_drawn}
use Rattle.ps_shapes.proofs.Places.{bit_read, row_within, width_within}
use Rattle.ps_shapes.proofs.paper.Paper.pixel.Goals as goal

pub place-at-requires : goal.place-at-requires
place-at-requires c = c.self.invariant.small

pub returns : goal.returns
returns c =
    let p = c.self.inside in
    let xs = p.bytes.items in
    let x = c.args.x in
    let y = c.args.y in
    let n = c.place-at.result in
    let w : p.width ≡ c.args.self.now.width = ap (λ (s : Sheet). s.width) c.self.view_is in
    let h : p.height ≡ c.args.self.now.height = ap (λ (s : Sheet). s.height) c.self.view_is in
    let left : x < p.width = omega arith in
    let above : y < p.height = omega arith in
    let wide : x < 8 * p.stride = rw c.self.invariant.whole (omega (arith, width_within p.width)) in
    let size : length xs ≡ p.height * p.stride = c.self.invariant.size in
    let row : y * (8 * p.stride) + x < 8 * (p.height * p.stride) = row_within p.stride p.height y x above wide in
    let near : n / 8 < length xs = omega (arith, c.place-at.ensures, size, row) in
    bit_read xs n c.index.result.now (c.index.ensures ∙ get_or_default xs (n / 8) c.index.result.now 0 near)
    ∙ ap (bit xs) c.place-at.ensures
    ∙ sym (pixel_drawn p.width p.height (dot_of p.stride xs) x y left above)
    ∙ ap (λ (s : Sheet). pixel s x y) c.self.view_is
