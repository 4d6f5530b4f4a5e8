use Rattle.std.proofs.Common.{◌≡◌, ◌∙◌, ap, subst, sym, false, All, List, ℕ}
use Rattle.ps_shapes.specs.Bits.{IsBytes}
use Rattle.ps_shapes.specs.Sheet.{Sheet, drawn}
use Rattle.ps_shapes.proofs.Packing.{white_bytes, white_sheet}
use Rattle.ps_shapes.proofs.paper.Paper.is_blank.Goals as goal

pub returns : goal.returns
returns c =
    let p = c.self.inside in
    let xs = p.bytes.items in
    let same : c.eight_bits.result.now ≡ xs = c.eight_bits.ensures.same ∙ c.as_slice.ensures.value in
    let small : IsBytes xs = subst (λ (l : List ℕ). IsBytes l) c.as_slice.ensures.value c.eight_bits.ensures.small in
    let width : p.width ≡ c.args.self.now.width = ap (λ (s : Sheet). s.width) c.self.view_is in
    let height : p.height ≡ c.args.self.now.height = ap (λ (s : Sheet). s.height) c.self.view_is in
    let white = λ (w h : ℕ). drawn w h (λ _ _. false) in
    let whites : white p.width p.height ≡ white c.args.self.now.width c.args.self.now.height = ap (λ w. white w p.height) width ∙ ap (white c.args.self.now.width) height in (
      λ yes. sym c.self.view_is ∙ white_bytes p.width p.height p.stride xs c.self.invariant (subst (λ (l : List ℕ). All (λ b. b ≡ 0) l) same (c.are_zero.ensures.0 yes)) ∙ whites,
      λ blank. c.are_zero.ensures.1 (subst (λ (l : List ℕ). All (λ b. b ≡ 0) l) (sym same) (white_sheet p.width p.height p.stride xs c.self.invariant small (c.self.view_is ∙ blank ∙ sym whites))),
    )
