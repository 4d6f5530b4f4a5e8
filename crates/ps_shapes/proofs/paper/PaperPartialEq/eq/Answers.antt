use Rattle.std.proofs.Common.{◌≡◌, ◌∙◌, ℕ, Bool, List, nat_eq, subst, sym, rules}
use Rattle.std.proofs.lemmas.Bool.{eqb-true}
use Rattle.std.specs.Bool.{Decides}
use Rattle.std.specs.Cmp.Lexicographic.{pointwise}
use Rattle.ps_shapes.specs.Bits.{dot_of, IsBytes}
use Rattle.ps_shapes.specs.Sheet.{drawn}
use Rattle.ps_shapes.proofs.Sameness.{same_answer, same_bytes_decide}
use Rattle.ps_shapes.proofs.paper.PaperPartialEq.eq.Goals as goal
use Rattle.ps_shapes.proofs.paper.PaperPartialEq.eq.Goals.{then-self-other, else-self-other}

pub returns-then-self-other-2 : goal.returns-then-self-other-2
returns-then-self-other-2 c =
    let p = c.self.inside in
    let q = c.other.inside in
    elim c.if-self-other.branch [
      | then-self-other w ↦
          (let width : p.width ≡ q.width = w.if-self-other.true in
          let height : p.height ≡ q.height = eqb-true p.height q.height (sym w.value-is ∙ c.if-self-other-2.true) in
          let small : IsBytes p.bytes.items = subst (λ (l : List ℕ). IsBytes l) c.as_slice.ensures.value c.eight_bits-bytes.ensures.small in
          let small' : IsBytes q.bytes.items = subst (λ (l : List ℕ). IsBytes l) c.as_slice-2.ensures.value c.eight_bits-others.ensures.small in
          let answer : c.eq.result ≡ pointwise nat_eq p.bytes.items q.bytes.items = search rules in
          let told : Decides c.eq.result (drawn p.width p.height (dot_of p.stride p.bytes.items) ≡ drawn q.width q.height (dot_of q.stride q.bytes.items)) =
          subst (λ (b : Bool). Decides b (drawn p.width p.height (dot_of p.stride p.bytes.items) ≡ drawn q.width q.height (dot_of q.stride q.bytes.items))) (sym answer)
          (same_bytes_decide p.width p.height p.stride q.width q.height q.stride p.bytes.items q.bytes.items width height c.self.invariant c.other.invariant small small') in
          same_answer c.eq.result _ _ c.args.self.now c.args.other.now told c.self.view_is c.other.view_is)
      | else-self-other w ↦ absurd (w.if-self-other.false (eqb-true p.width q.width (sym w.value-is ∙ c.if-self-other-2.true)))
    ]
