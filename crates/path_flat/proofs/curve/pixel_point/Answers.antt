-- The point's coordinates are rounded.
use Rattle.std.proofs.Common.{◌∙◌, rules, SFits, to_z-of_z}
use Rattle.std.specs.Int.{w32, w64}
use Rattle.path_flat.proofs.Placed.{pixel_here}
use Rattle.path_flat.proofs.curve.pixel_point.Goals as goal

pub returns-clause-point : goal.returns-clause-point
returns-clause-point c =
    let fx : SFits w64 c.args.point.x.count = search rules in
    let fy : SFits w64 c.args.point.y.count = search rules in
    let gx : SFits w32 c.rounded-x.result = search rules in
    let gy : SFits w32 c.rounded-y.result = search rules in
    pixel_here c.args.point _ _ _ _ (to_z-of_z gx ∙ simp to_z-of_z at c.rounded-x.ensures.value) (to_z-of_z gy ∙ simp to_z-of_z at c.rounded-y.ensures.value)
