-- One more piece of an arc.
use Rattle.std.proofs.Common.{◌≡◌, ℕ, zero, suc, ◌+◌, ◌-◌, ◌<◌, List, [], ◌∷◌, ◌++◌, Result, Ok, Err, refl, sym, ap, ◌∙◌, arith}
use Rattle.ps_names.specs.declared.error_name.ErrorName.{ErrorName}
use Rattle.ps_shapes.specs.declared.numbers.Matrix.{Matrix}
use Rattle.ps_shapes.specs.declared.path.Segment.{Segment}
use Rattle.path_build.specs.declared.arcs.Sweep.{Sweep}
use Rattle.path_build.specs.Arcs.{piece, pieces_from}
use Rattle.path_build.specs.Points.{going_on}

module _ (m : Matrix) (c : Sweep) (n all : ℕ) (made : List Segment) (l : n < all) where
  next : pieces_from m c n (all - n) made ≡ going_on (piece m c n) (λ curve. pieces_from m c (n + 1) (all - (n + 1)) (made ++ curve ∷ []))
  next = ap (λ k. pieces_from m c n k made) (one_more n all l)
    where
      one_more : (n all : ℕ) → n < all → all - n ≡ suc (all - (n + 1))
      one_more n all l = omega arith

  gives : (r : Result Segment ErrorName) → piece m c n ≡ r → pieces_from m c n (all - n) made ≡ going_on r (λ curve. pieces_from m c (n + 1) (all - (n + 1)) (made ++ curve ∷ []))
  gives r e = next ∙ ap (λ r. going_on r (λ curve. pieces_from m c (n + 1) (all - (n + 1)) (made ++ curve ∷ []))) e

  pub piece_made : (curve : Segment) → piece m c n ≡ Ok curve → pieces_from m c n (all - n) made ≡ pieces_from m c (n + 1) (all - (n + 1)) (made ++ curve ∷ [])
  piece_made curve e = gives (Ok curve) e

  pub piece_refused : (whole : Result (List Segment) ErrorName) (r : Result Segment ErrorName) (x : ErrorName) → pieces_from m c n (all - n) made ≡ whole → r ≡ piece m c n → r ≡ Err x → whole ≡ Err x
  piece_refused whole r x h p e = sym h ∙ gives (Err x) (sym p ∙ e)
