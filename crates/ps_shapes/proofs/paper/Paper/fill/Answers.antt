use Rattle.std.proofs.Common.{◌≡◌, ◌+◌, ◌*◌, ◌<◌, ◌≤◌, ap, subst, sym, ◌∙◌, length, List, ℕ, Bool, take, drop, ◌++◌, arith}
use Rattle.ps_shapes.specs.Bits.{IsFilled, IsRows, dot_of}
use Rattle.ps_shapes.specs.Sheet.{Sheet, drawn, repainted}
use Rattle.ps_shapes.specs.Span.{holds}
use Rattle.ps_shapes.proofs.Filling.{filled_cast, written}
use Rattle.ps_shapes.proofs.Places.{filled_rows, filled_view}
use Rattle.ps_shapes.proofs.paper.Paper.fill.Goals as goal

pub invariant_of-self : goal.invariant_of-self
invariant_of-self c =
    let p = c.self.inside in
    let ys = c.fill_bits.new.bytes in
    let ms = c.as_mut_slice.result.now in
    let w : p.width ≡ c.args.self.now.width = ap (λ (s : Sheet). s.width) c.self.view_is in
    let f = c.place-first.result in
    let e = c.place-past.result in
    let fill : IsFilled p.bytes.items ys f e c.args.black = subst (λ (l : List ℕ). IsFilled l ys f e c.args.black) c.as_mut_slice.ensures.value c.fill_bits.ensures in
    let whole : take p.bytes.len (ys ++ drop (length ys) p.bytes.items) ≡ ys = written p.bytes.len ys p.bytes.items (sym (c.fill_bits.ensures.size ∙ c.as_mut_slice.ensures.len)) in
    rw whole (filled_rows p.width p.height p.stride p.bytes.items ys c.args.span c.args.black c.self.invariant (omega arith)
    (filled_cast p.bytes.items ys f e _ _ c.args.black fill c.place-first.ensures c.place-past.ensures))

pub returns : goal.returns
returns c =
    let p = c.self.inside in
    let ys = c.fill_bits.new.bytes in
    let w : p.width ≡ c.args.self.now.width = ap (λ (s : Sheet). s.width) c.self.view_is in
    let f = c.place-first.result in
    let e = c.place-past.result in
    let fill : IsFilled p.bytes.items ys f e c.args.black = subst (λ (l : List ℕ). IsFilled l ys f e c.args.black) c.as_mut_slice.ensures.value c.fill_bits.ensures in
    let whole : take p.bytes.len (ys ++ drop (length ys) p.bytes.items) ≡ ys = written p.bytes.len ys p.bytes.items (sym (c.fill_bits.ensures.size ∙ c.as_mut_slice.ensures.len)) in
    ap (λ l. drawn p.width p.height (dot_of p.stride l)) whole
    ∙ filled_view p.width p.height p.stride p.bytes.items ys c.args.span c.args.black c.self.invariant (omega arith)
    (filled_cast p.bytes.items ys f e _ _ c.args.black fill c.place-first.ensures c.place-past.ensures)
    ∙ ap (λ (s : Sheet). repainted s (λ x y. holds x y c.args.span) (λ _ _. c.args.black)) c.self.view_is
