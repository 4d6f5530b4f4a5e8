-- The point's coordinates are those of the curve.
use Rattle.std.proofs.Common.{◌∙◌, rules, SFits, to_z-of_z}
use Rattle.std.specs.Int.{w64}
use Rattle.path_flat.proofs.Placed.{curve_here}
use Rattle.path_flat.proofs.curve.curve_point.Goals as goal

pub returns-clause-x : goal.returns-clause-x
returns-clause-x c =
    let f1 : SFits w64 c.args.start.x.count = search rules in
    let f2 : SFits w64 c.args.first.x.count = search rules in
    let f3 : SFits w64 c.args.second.x.count = search rules in
    let f4 : SFits w64 c.args.end.x.count = search rules in
    let g : SFits w64 c.coordinate-x.result = search rules in
    to_z-of_z g ∙ simp to_z-of_z at c.coordinate-x.ensures.value

pub returns-clause-y : goal.returns-clause-y
returns-clause-y c =
    let f1 : SFits w64 c.args.start.y.count = search rules in
    let f2 : SFits w64 c.args.first.y.count = search rules in
    let f3 : SFits w64 c.args.second.y.count = search rules in
    let f4 : SFits w64 c.args.end.y.count = search rules in
    let g : SFits w64 c.coordinate-y.result = search rules in
    to_z-of_z g ∙ simp to_z-of_z at c.coordinate-y.ensures.value

pub returns-clause-point : goal.returns-clause-point
returns-clause-point c =
    let f1 : SFits w64 c.args.start.x.count = search rules in
    let f2 : SFits w64 c.args.first.x.count = search rules in
    let f3 : SFits w64 c.args.second.x.count = search rules in
    let f4 : SFits w64 c.args.end.x.count = search rules in
    let g1 : SFits w64 c.args.start.y.count = search rules in
    let g2 : SFits w64 c.args.first.y.count = search rules in
    let g3 : SFits w64 c.args.second.y.count = search rules in
    let g4 : SFits w64 c.args.end.y.count = search rules in
    let f : SFits w64 c.coordinate-x.result = search rules in
    let g : SFits w64 c.coordinate-y.result = search rules in
    curve_here c.args.part c.args.start c.args.first c.args.second c.args.end _ _ _ _
    (to_z-of_z f ∙ simp to_z-of_z at c.coordinate-x.ensures.value) (to_z-of_z g ∙ simp to_z-of_z at c.coordinate-y.ensures.value)
