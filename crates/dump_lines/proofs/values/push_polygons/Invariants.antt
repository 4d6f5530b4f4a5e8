use Rattle.std.proofs.Common.{◌≡◌, ◌++◌, take}
use Rattle.dump_lines.specs.Values.{polygon_text, spaced}
use Rattle.dump_lines.proofs.values.push_polygons.Given as goal

abbrev pub invariant-loop-polygon : goal.invariant-loop-polygon
invariant-loop-polygon l = l.text ≡ l.fn.text ++ spaced polygon_text (take l.polygon-index l.polygons)
