use Rattle.std.proofs.Common.{◌≡◌, ◌∙◌, ap, subst, List, ℕ}
use Rattle.ps_shapes.specs.Bits.{IsBytes, IsPacked}
use Rattle.ps_shapes.specs.Picture.{picture_bytes}
use Rattle.ps_shapes.specs.Sheet.{Sheet}
use Rattle.ps_shapes.proofs.Places.{packed}
use Rattle.ps_shapes.proofs.Packing.{picture_packed}
use Rattle.ps_shapes.proofs.paper.Paper.as_bytes.Goals as goal

pub returns-clause-packed : goal.returns-clause-packed
returns-clause-packed c =
    let p = c.self.inside in
    let same : c.eight_bits.result.now ≡ p.bytes.items = c.eight_bits.ensures.same ∙ c.as_slice.ensures.value in
    rw same (subst (λ (s : Sheet). IsPacked s p.bytes.items) c.self.view_is (packed p.width p.height p.stride p.bytes.items c.self.invariant))

pub returns-clause-bytes : goal.returns-clause-bytes
returns-clause-bytes c =
    let p = c.self.inside in
    let small : IsBytes p.bytes.items = subst (λ (l : List ℕ). IsBytes l) c.as_slice.ensures.value c.eight_bits.ensures.small in
    c.eight_bits.ensures.same ∙ c.as_slice.ensures.value ∙ picture_packed p.width p.height p.stride p.bytes.items c.self.invariant small ∙ ap picture_bytes c.self.view_is
