use Rattle.std.proofs.Common.{◌≡◌, ◌+◌, ◌-◌, ◌∙◌, ap, length, Option, Some}
use Rattle.std.specs.Prelude.{count_by, slice_get}
use Rattle.ps_shapes.specs.declared.polygon.Point.{Point}
use Rattle.path_cover.specs.Cover.{counts, sides_from}
use Rattle.path_cover.specs.Marks.{marks}
use Rattle.path_cover.proofs.gather.gather.Goals as goal

pub returns-in_ok-gather_after-in-Some : goal.returns-in_ok-gather_after-in-Some
returns-in_ok-gather_after-in-Some c = λ down x y h.
    let ps = c.args.points.now in
    let last : Some c.in-Some.last.now ≡ slice_get ps (length ps - 1) = c.in-Some.ensures.value in
    c.in_ok-gather_after-in-Some.ensures down x y h
    ∙ ap (λ (o : Option Point). count_by (marks down x y) c.args.edges.now.items + count_by (counts down x y) (sides_from o ps)) last
