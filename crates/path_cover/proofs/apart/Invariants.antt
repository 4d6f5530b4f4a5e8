use Rattle.std.proofs.Common.{◌≡◌, ℕ, ◌<◌, take}
use Rattle.ps_shapes.specs.Span.{is_in}
use Rattle.path_cover.specs.Cover.{covers_one}
use Rattle.path_cover.specs.Scattered.{IsScattered}
use Rattle.path_cover.proofs.apart.Given as goal

abbrev pub invariant-loop-polygon : goal.invariant-loop-polygon
invariant-loop-polygon l = record {
  exact : (x y : ℕ) → x < l.width → y < l.height → is_in l.spans.items x y ≡ covers_one (take l.polygon-index l.polygons) x y;
  raw : IsScattered l.width l.height l.spans.items;
}
