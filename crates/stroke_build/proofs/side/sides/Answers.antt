-- An open subpath, and a closed one.
use Rattle.std.proofs.Common.{◌≡◌, true, false, rules}
use Rattle.stroke_build.proofs.Walks.{sides_open, sides_closed, along_is, closing_is, not_true, not_false}
use Rattle.stroke_build.proofs.side.sides.Goals as goal

pub returns-then-not-subpath : goal.returns-then-not-subpath
returns-then-not-subpath c =
    let e : c.args.subpath.now.closed ≡ false = search (rules, not_true) in
    sides_open c.args.radius c.args.subpath.now.points c.args.subpath.now.closed _ e
    (along_is c.args.radius c.new-sides.result.items _ c.args.subpath.now.points c.as_slice-points.result.now c.new-sides.ensures.items c.as_slice-points.ensures c.in_ok-add_along.ensures)

pub returns : goal.returns
returns c =
    let e : c.args.subpath.now.closed ≡ true = search (rules, not_false) in
    sides_closed c.args.radius c.args.subpath.now.points c.args.subpath.now.closed _ _ e
    (along_is c.args.radius c.new-sides.result.items _ c.args.subpath.now.points c.as_slice-points.result.now c.new-sides.ensures.items c.as_slice-points.ensures c.in_ok-add_along.ensures)
    (closing_is c.args.radius _ _ c.args.subpath.now.points c.as_slice-points.result.now c.as_slice-points.ensures c.in_ok-add_closing.ensures)
