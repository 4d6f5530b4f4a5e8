-- One more segment in a box.
use Rattle.std.proofs.Common.{◌≡◌, ℕ, ◌+◌, List, ◌∷◌, drop, Some, slice_get, ap}
use Rattle.ps_shapes.specs.declared.path.Segment.{Segment}
use Rattle.ps_operator.proofs.LookSteps.{drop_at_get}
use Rattle.path_build.specs.declared.boxes.Extent.{Extent}
use Rattle.path_build.specs.Boxes.{with_points, box_from}

pub one_more : (xs : List Segment) (i : ℕ) (x : Segment) (b : Extent) → slice_get xs i ≡ Some x → box_from b (drop i xs) ≡ box_from (with_points b x) (drop (i + 1) xs)
one_more xs i x b e = ap (box_from b) (drop_at_get xs i x e)
