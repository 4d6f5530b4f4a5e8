-- The weighted sum lies within 2^61, and its 32768th part within 2^46.
use Rattle.std.proofs.Common.{ℤ, ◌∙◌, sym, subst, rules, SFits, to_z-of_z}
use Rattle.std.specs.Int.{w64}
use Rattle.std.specs.Prelude.{◌+ℤ◌}
use Rattle.ps_shapes.specs.Near.{IsOnDevice}
use Rattle.path_flat.proofs.Weighing.{Parts, parts_near, parts_sum, parts_summed, computed}
use Rattle.path_flat.proofs.curve.coordinate.Goals as goal

pub overflow_add-result : goal.overflow_add-result
overflow_add-result c =
    let w = c.weights_at-weights.result in
    let f1 : SFits w64 c.args.start = search rules in
    let f2 : SFits w64 c.args.first = search rules in
    let f3 : SFits w64 c.args.second = search rules in
    let f4 : SFits w64 c.args.end = search rules in
    let g1 : SFits w64 c.weighted-a.result = search rules in
    let g2 : SFits w64 c.weighted-b.result = search rules in
    let g3 : SFits w64 c.weighted-c.result = search rules in
    let g4 : SFits w64 c.weighted-d.result = search rules in
    let h : Parts w.start w.first w.second w.end c.args.start c.args.first c.args.second c.args.end c.weighted-a.result c.weighted-b.result c.weighted-c.result c.weighted-d.result =
    record {
      whole = c.weights_at-weights.ensures.whole;
      near_p = c.requires.start;
      near_q = c.requires.first;
      near_r = c.requires.second;
      near_s = c.requires.end;
      is_a = simp to_z-of_z at c.weighted-a.ensures;
      is_b = simp to_z-of_z at c.weighted-b.ensures;
      is_c = simp to_z-of_z at c.weighted-c.ensures;
      is_d = simp to_z-of_z at c.weighted-d.ensures;
    }
    in
    let s = parts_summed w.start w.first w.second w.end c.args.start c.args.first c.args.second c.args.end c.weighted-a.result c.weighted-b.result c.weighted-c.result c.weighted-d.result h in
    simp to_z-of_z s.first

pub overflow_add-result-2 : goal.overflow_add-result-2
overflow_add-result-2 c =
    let w = c.weights_at-weights.result in
    let f1 : SFits w64 c.args.start = search rules in
    let f2 : SFits w64 c.args.first = search rules in
    let f3 : SFits w64 c.args.second = search rules in
    let f4 : SFits w64 c.args.end = search rules in
    let g1 : SFits w64 c.weighted-a.result = search rules in
    let g2 : SFits w64 c.weighted-b.result = search rules in
    let g3 : SFits w64 c.weighted-c.result = search rules in
    let g4 : SFits w64 c.weighted-d.result = search rules in
    let h : Parts w.start w.first w.second w.end c.args.start c.args.first c.args.second c.args.end c.weighted-a.result c.weighted-b.result c.weighted-c.result c.weighted-d.result =
    record {
      whole = c.weights_at-weights.ensures.whole;
      near_p = c.requires.start;
      near_q = c.requires.first;
      near_r = c.requires.second;
      near_s = c.requires.end;
      is_a = simp to_z-of_z at c.weighted-a.ensures;
      is_b = simp to_z-of_z at c.weighted-b.ensures;
      is_c = simp to_z-of_z at c.weighted-c.ensures;
      is_d = simp to_z-of_z at c.weighted-d.ensures;
    }
    in
    let s = parts_summed w.start w.first w.second w.end c.args.start c.args.first c.args.second c.args.end c.weighted-a.result c.weighted-b.result c.weighted-c.result c.weighted-d.result h in
    let s1 : SFits w64 (c.weighted-a.result +ℤ c.weighted-b.result) = s.first in
    simp to_z-of_z s.second

pub overflow_add-result-3 : goal.overflow_add-result-3
overflow_add-result-3 c =
    let w = c.weights_at-weights.result in
    let f1 : SFits w64 c.args.start = search rules in
    let f2 : SFits w64 c.args.first = search rules in
    let f3 : SFits w64 c.args.second = search rules in
    let f4 : SFits w64 c.args.end = search rules in
    let g1 : SFits w64 c.weighted-a.result = search rules in
    let g2 : SFits w64 c.weighted-b.result = search rules in
    let g3 : SFits w64 c.weighted-c.result = search rules in
    let g4 : SFits w64 c.weighted-d.result = search rules in
    let h : Parts w.start w.first w.second w.end c.args.start c.args.first c.args.second c.args.end c.weighted-a.result c.weighted-b.result c.weighted-c.result c.weighted-d.result =
    record {
      whole = c.weights_at-weights.ensures.whole;
      near_p = c.requires.start;
      near_q = c.requires.first;
      near_r = c.requires.second;
      near_s = c.requires.end;
      is_a = simp to_z-of_z at c.weighted-a.ensures;
      is_b = simp to_z-of_z at c.weighted-b.ensures;
      is_c = simp to_z-of_z at c.weighted-c.ensures;
      is_d = simp to_z-of_z at c.weighted-d.ensures;
    }
    in
    let s = parts_summed w.start w.first w.second w.end c.args.start c.args.first c.args.second c.args.end c.weighted-a.result c.weighted-b.result c.weighted-c.result c.weighted-d.result h in
    let s1 : SFits w64 (c.weighted-a.result +ℤ c.weighted-b.result) = s.first in
    let s2 : SFits w64 (c.weighted-a.result +ℤ c.weighted-b.result +ℤ c.weighted-c.result) = s.second in
    simp to_z-of_z s.third

pub overflow_add-result-4 : goal.overflow_add-result-4
overflow_add-result-4 c =
    let w = c.weights_at-weights.result in
    let f1 : SFits w64 c.args.start = search rules in
    let f2 : SFits w64 c.args.first = search rules in
    let f3 : SFits w64 c.args.second = search rules in
    let f4 : SFits w64 c.args.end = search rules in
    let g1 : SFits w64 c.weighted-a.result = search rules in
    let g2 : SFits w64 c.weighted-b.result = search rules in
    let g3 : SFits w64 c.weighted-c.result = search rules in
    let g4 : SFits w64 c.weighted-d.result = search rules in
    let h : Parts w.start w.first w.second w.end c.args.start c.args.first c.args.second c.args.end c.weighted-a.result c.weighted-b.result c.weighted-c.result c.weighted-d.result =
    record {
      whole = c.weights_at-weights.ensures.whole;
      near_p = c.requires.start;
      near_q = c.requires.first;
      near_r = c.requires.second;
      near_s = c.requires.end;
      is_a = simp to_z-of_z at c.weighted-a.ensures;
      is_b = simp to_z-of_z at c.weighted-b.ensures;
      is_c = simp to_z-of_z at c.weighted-c.ensures;
      is_d = simp to_z-of_z at c.weighted-d.ensures;
    }
    in
    let s = parts_summed w.start w.first w.second w.end c.args.start c.args.first c.args.second c.args.end c.weighted-a.result c.weighted-b.result c.weighted-c.result c.weighted-d.result h in
    let s1 : SFits w64 (c.weighted-a.result +ℤ c.weighted-b.result) = s.first in
    let s2 : SFits w64 (c.weighted-a.result +ℤ c.weighted-b.result +ℤ c.weighted-c.result) = s.second in
    let s3 : SFits w64 (c.weighted-a.result +ℤ c.weighted-b.result +ℤ c.weighted-c.result +ℤ c.weighted-d.result) = s.third in
    simp to_z-of_z s.rounded

pub returns-clause-value : goal.returns-clause-value
returns-clause-value c =
    let w = c.weights_at-weights.result in
    let f1 : SFits w64 c.args.start = search rules in
    let f2 : SFits w64 c.args.first = search rules in
    let f3 : SFits w64 c.args.second = search rules in
    let f4 : SFits w64 c.args.end = search rules in
    let g1 : SFits w64 c.weighted-a.result = search rules in
    let g2 : SFits w64 c.weighted-b.result = search rules in
    let g3 : SFits w64 c.weighted-c.result = search rules in
    let g4 : SFits w64 c.weighted-d.result = search rules in
    let h : Parts w.start w.first w.second w.end c.args.start c.args.first c.args.second c.args.end c.weighted-a.result c.weighted-b.result c.weighted-c.result c.weighted-d.result =
    record {
      whole = c.weights_at-weights.ensures.whole;
      near_p = c.requires.start;
      near_q = c.requires.first;
      near_r = c.requires.second;
      near_s = c.requires.end;
      is_a = simp to_z-of_z at c.weighted-a.ensures;
      is_b = simp to_z-of_z at c.weighted-b.ensures;
      is_c = simp to_z-of_z at c.weighted-c.ensures;
      is_d = simp to_z-of_z at c.weighted-d.ensures;
    }
    in
    computed c.weighted-a.result c.weighted-b.result c.weighted-c.result c.weighted-d.result g1 g2 g3 g4 (parts_summed w.start w.first w.second w.end c.args.start c.args.first c.args.second c.args.end c.weighted-a.result c.weighted-b.result c.weighted-c.result c.weighted-d.result h) (parts_near w.start w.first w.second w.end c.args.start c.args.first c.args.second c.args.end c.weighted-a.result c.weighted-b.result c.weighted-c.result c.weighted-d.result h)
    ∙ parts_sum c.args.part w.start w.first w.second w.end c.args.start c.args.first c.args.second c.args.end c.weighted-a.result c.weighted-b.result c.weighted-c.result c.weighted-d.result h c.weights_at-weights.ensures.start c.weights_at-weights.ensures.first c.weights_at-weights.ensures.second c.weights_at-weights.ensures.end

pub returns-clause-near : goal.returns-clause-near
returns-clause-near c =
    let w = c.weights_at-weights.result in
    let f1 : SFits w64 c.args.start = search rules in
    let f2 : SFits w64 c.args.first = search rules in
    let f3 : SFits w64 c.args.second = search rules in
    let f4 : SFits w64 c.args.end = search rules in
    let g1 : SFits w64 c.weighted-a.result = search rules in
    let g2 : SFits w64 c.weighted-b.result = search rules in
    let g3 : SFits w64 c.weighted-c.result = search rules in
    let g4 : SFits w64 c.weighted-d.result = search rules in
    let h : Parts w.start w.first w.second w.end c.args.start c.args.first c.args.second c.args.end c.weighted-a.result c.weighted-b.result c.weighted-c.result c.weighted-d.result =
    record {
      whole = c.weights_at-weights.ensures.whole;
      near_p = c.requires.start;
      near_q = c.requires.first;
      near_r = c.requires.second;
      near_s = c.requires.end;
      is_a = simp to_z-of_z at c.weighted-a.ensures;
      is_b = simp to_z-of_z at c.weighted-b.ensures;
      is_c = simp to_z-of_z at c.weighted-c.ensures;
      is_d = simp to_z-of_z at c.weighted-d.ensures;
    }
    in
    let near = parts_near w.start w.first w.second w.end c.args.start c.args.first c.args.second c.args.end c.weighted-a.result c.weighted-b.result c.weighted-c.result c.weighted-d.result h in
    subst (λ (z : ℤ). IsOnDevice z) (sym (computed c.weighted-a.result c.weighted-b.result c.weighted-c.result c.weighted-d.result g1 g2 g3 g4 (parts_summed w.start w.first w.second w.end c.args.start c.args.first c.args.second c.args.end c.weighted-a.result c.weighted-b.result c.weighted-c.result c.weighted-d.result h) near)) near
