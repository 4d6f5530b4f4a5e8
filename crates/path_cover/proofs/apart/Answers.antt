use Rattle.std.proofs.Common.{◌≡◌, ◌∙◌, ◌||◌, Bool, true, false, List, ap, sym, take, arith}
use Rattle.std.specs.Prelude.{count_by}
use Rattle.ps_shapes.specs.declared.polygon.Point.{Point}
use Rattle.path_cover.specs.Cover.{counted, is_inside, covers_one}
use Rattle.path_cover.specs.Marks.{marks, marked}
use Rattle.path_cover.specs.declared.edge.Edge.{Edge}
use Rattle.path_cover.proofs.Polygons.{any_more}
use Rattle.path_cover.proofs.apart.Goals as goal

pub loop-polygon-preserved : goal.loop-polygon-preserved
loop-polygon-preserved c =
    let ps = c.args.polygons.now in
    let i = c.loop-polygon.polygon-index in
    let polygon = c.polygon-item.result in
    record {
      exact = λ x y p q.
          let o = covers_one (take i ps) x y in
          let same : (down : Bool) → count_by (marks down x y) c.gather.new.edges.items ≡ counted down x y polygon = λ down.
          (let e : count_by (marks down x y) c.clear.new.self.items ≡ 0 = ap (λ (l : List Edge). count_by (marks down x y) l) c.clear.ensures.items in
          let g : counted down x y c.as_slice.result.now ≡ counted down x y polygon = ap (λ (r : List Point). counted down x y r) c.as_slice.ensures in
          omega (arith, c.in_ok-gather.ensures down x y q, e, g)) in
          c.in_ok-scan.ensures.exact x y p q
          ∙ ap (λ b. b || marked false c.gather.new.edges.items x y) (c.loop-polygon.invariant.exact x y p q)
          ∙ ap (λ n. o || is_inside false n (count_by (marks false x y) c.gather.new.edges.items)) (same true)
          ∙ ap (λ n. o || is_inside false (counted true x y polygon) n) (same false)
          ∙ sym (any_more ps i polygon x y c.loop-polygon-test.true c.polygon-item.is);
      raw = c.in_ok-scan.ensures.place c.loop-polygon.invariant.raw;
    }
