use Rattle.std.proofs.Common.{◌≡◌, ℕ, Bool, ap, ◌∙◌, rules, arith}
use Rattle.ps_shapes.specs.Span.{holds}
use Rattle.ps_shapes.specs.Sheet.{Sheet, repainted}
use Rattle.ps_paper.specs.Ink.{ink_of}
use Rattle.ps_paper.proofs.Painting.{run, dot_more}
use Rattle.ps_paper.proofs.dither.Goals as goal

pub loop-x-preserved : goal.loop-x-preserved
loop-x-preserved c =
    let row = c.args.span.row in
    let k = c.loop-x.x in
    let ink : ℕ → ℕ → Bool = ink_of c.args.gray.now.count c.args.thresholds.now in
    let b = c.black-ink.result in
    let e : b ≡ ink k row = search rules in
    record {
      painted = dot_more c.args.paper.now c.loop-x.paper c.fill.new.self row c.args.span.first k ink b c.loop-x.invariant.painted c.fill.ensures e (omega arith);
      width = ap (λ (s : Sheet). s.width) c.fill.ensures ∙ c.loop-x.invariant.width;
      height = ap (λ (s : Sheet). s.height) c.fill.ensures ∙ c.loop-x.invariant.height;
    }

pub returns : goal.returns
returns c =
    let ink : ℕ → ℕ → Bool = ink_of c.args.gray.now.count c.args.thresholds.now in
    let s = c.args.span in
    let end : c.loop-x.x ≡ s.past = omega arith in
    c.loop-x.invariant.painted ∙ ap (λ k. repainted c.args.paper.now (λ x y. holds x y (run s.row s.first k)) ink) end
