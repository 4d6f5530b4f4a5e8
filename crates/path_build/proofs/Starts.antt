-- The search for where the newest subpath begins, back from the end.
use Rattle.std.proofs.Common.{◌≡◌, ℕ, ◌+◌, List, ◌∷◌, drop, Option, Some, None, slice_get, sym, ap, ◌∙◌}
use Rattle.ps_shapes.specs.declared.path.DevicePoint.{DevicePoint}
use Rattle.ps_shapes.specs.declared.path.Segment.{Segment}
use Rattle.ps_operator.proofs.LookSteps.{drop_at_get}
use Rattle.path_build.specs.Paths.{begins, point_or, start_behind}

module _ (ys : List Segment) (i : ℕ) (x : Segment) (here : slice_get ys i ≡ Some x) where
  left : (o : Option DevicePoint) → o ≡ begins x → start_behind (drop i ys) ≡ point_or o (start_behind (drop (i + 1) ys))
  left o e = ap start_behind (drop_at_get ys i x here) ∙ ap (λ o. point_or o (start_behind (drop (i + 1) ys))) (sym e)

  pub begins_here : (p : DevicePoint) → Some p ≡ begins x → start_behind (drop i ys) ≡ Some p
  begins_here p e = left (Some p) e

  pub begins_before : None ≡ begins x → start_behind (drop i ys) ≡ start_behind (drop (i + 1) ys)
  begins_before e = left None e
