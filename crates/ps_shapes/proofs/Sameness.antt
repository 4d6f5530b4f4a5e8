-- Tests of sheets, and of the bytes that hold them.
use Rattle.std.proofs.Common.{◌≡◌, ℕ, ◌&&◌, Bool, true, false, List, nat_eq, refl, ap, subst, sym, ◌∙◌}
use Rattle.std.specs.Bool.{Decides, beq, one_answer}
use Rattle.std.specs.Cmp.{unsigned_Decides, booleans_Decides}
use Rattle.std.specs.Cmp.Lexicographic.{pointwise, pointwise_decides}
use Rattle.std.proofs.lemmas.Bool.{and_from, and_parts, eqb-true, eq-eqb}
use Rattle.ps_shapes.specs.Bits.{dot_of, stride_of, IsBytes, IsRows}
use Rattle.ps_shapes.specs.Same.{same_sheet}
use Rattle.ps_shapes.specs.Sheet.{Sheet, drawn}
use Rattle.ps_shapes.proofs.Packing.{same_sheet_bytes}

same_rows : (xs ys : List (List Bool)) → Decides (pointwise (pointwise beq) xs ys) (xs ≡ ys)
same_rows = pointwise_decides (pointwise_decides booleans_Decides)

-- the test of two sheets tells whether they are equal
pub same_sheet_decides : (a b : Sheet) → Decides (same_sheet a b) (a ≡ b)
same_sheet_decides a b = (
  λ yes.
      let p = and_parts _ _ yes in
      let q = and_parts _ _ p.1 in
      let width : a.width ≡ b.width = eqb-true a.width b.width p.0 in
      let height : a.height ≡ b.height = eqb-true a.height b.height q.0 in
      let rows : a.rows ≡ b.rows = (same_rows a.rows b.rows).0 q.1 in
      (λ i. record { width = width i; height = height i; rows = rows i }),
  λ e.
      and_from _ _ (eq-eqb a.width b.width (ap (λ (s : Sheet). s.width) e))
      (and_from _ _ (eq-eqb a.height b.height (ap (λ (s : Sheet). s.height) e)) ((same_rows a.rows b.rows).1 (ap (λ (s : Sheet). s.rows) e))),
)

moved : (w h s w' h' s' : ℕ) (ys : List ℕ) → w' ≡ w → h' ≡ h → s' ≡ s → IsRows w' h' s' ys → IsRows w h s ys
moved w h s w' h' s' ys ew eh es q =
    subst (λ (v : ℕ). IsRows v h s ys) ew (subst (λ (v : ℕ). IsRows w' v s ys) eh (subst (λ (v : ℕ). IsRows w' h' v ys) es q))

-- where the sizes are equal, the sheets are equal where their bytes are
pub same_bytes_decide : (w h s w' h' s' : ℕ) (xs ys : List ℕ) → w ≡ w' → h ≡ h' → IsRows w h s xs → IsRows w' h' s' ys → IsBytes xs → IsBytes ys → Decides (pointwise nat_eq xs ys) (drawn w h (dot_of s xs) ≡ drawn w' h' (dot_of s' ys))
same_bytes_decide w h s w' h' s' xs ys ew eh p q small_xs small_ys =
    let es : s ≡ s' = p.whole ∙ ap (λ v. stride_of v) ew ∙ sym q.whole in
    let sheets : drawn w h (dot_of s ys) ≡ drawn w' h' (dot_of s' ys) = λ i. drawn (ew i) (eh i) (dot_of (es i) ys) in
    let q' : IsRows w h s ys = moved w h s w' h' s' ys (sym ew) (sym eh) (sym es) q in
    let bytes = pointwise_decides unsigned_Decides xs ys in (
      λ yes. ap (λ l. drawn w h (dot_of s l)) (bytes.0 yes) ∙ sheets,
      λ e. bytes.1 (same_sheet_bytes w h s xs ys p q' small_xs small_ys (e ∙ sym sheets)),
    )

-- an answer about views, as one about the values that they are the views of
pub same_answer : (r : Bool) (v w a b : Sheet) → Decides r (v ≡ w) → v ≡ a → w ≡ b → r ≡ same_sheet a b
same_answer r v w a b told p q =
    one_answer r (same_sheet a b) ((λ yes. sym p ∙ told.0 yes ∙ q), (λ e. told.1 (p ∙ e ∙ sym q))) (same_sheet_decides a b)
