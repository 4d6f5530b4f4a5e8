use Rattle.std.proofs.Common.{◌≡◌, ℕ, ◌+◌, ◌<◌, ◌≤◌, ◌∙◌, min, max, true, false, get_or, ap, subst, sym, arith}
use Rattle.std.proofs.lemmas.List.{get_or_default}
use Rattle.path_cover.specs.Marks.{crossed}
use Rattle.path_cover.specs.declared.crossing.Crossing.{Crossing}
use Rattle.path_cover.proofs.Sides.{one_if}
use Rattle.path_cover.proofs.Sweeping.{small, as_one, Content, Reached, going, within_between, content_more, content_all, reached_more, counted_more}
use Rattle.path_cover.proofs.sweep.sweep.Goals as goal

pub loop-crossing-preserved : goal.loop-crossing-preserved
loop-crossing-preserved c =
    let cs = c.args.crossings.now in
    let i = c.loop-crossing.crossing-index in
    let zero : Crossing = record { column = 0; down = false } in
    let old = c.args.spans.now.items in
    let now = c.loop-crossing.spans.items in
    let next = c.gap.new.spans.items in
    let at = c.loop-crossing.at in
    let here = c.min-here.result in
    let v = c.loop-crossing.invariant in
    let far : here ≡ min (get_or cs i zero).column c.args.width = c.min-here.ensures in
    let top : c.max-at.result ≡ max at here = c.max-at.ensures in
    let down : c.from-downs.result ≡ one_if (going true (get_or cs i zero)) = c.from-downs.ensures ∙ as_one (going true (get_or cs i zero)) in
    let up : c.from-ups.result ≡ one_if (going false (get_or cs i zero)) = c.from-ups.ensures ∙ as_one (going false (get_or cs i zero)) in
    let same : (x : ℕ) → at ≤ x → x < here → x < c.args.width → crossed c.args.odd cs x ≡ c.is_inside.result =
    (λ x p q r. within_between c.args.odd cs i x c.args.width at here c.loop-crossing.downs c.loop-crossing.ups v.reached p r q
    (λ j d k l. let m : (get_or cs i d).column ≤ (get_or cs j d).column = c.requires i j d k l in
    let f : (get_or cs i d).column ≡ (get_or cs i zero).column = ap (λ (e : Crossing). e.column) (get_or_default cs i d zero c.loop-crossing-test.true) in omega arith)
    v.downs v.ups ∙ sym c.is_inside.ensures) in
    let gone : Content old next c.args.odd c.args.row c.args.width (max at here) cs = content_more old now next c.args.odd c.args.row c.args.width at here cs c.is_inside.result v.content c.in_ok-gap.ensures.exact same in
    let near : Reached cs (i + 1) c.args.width (max at here) = reached_more cs i c.args.width at here zero c.loop-crossing-test.true far v.reached in
    record {
      fits = omega arith;
      downs_small = (let s : one_if (going true (get_or cs i zero)) ≤ 1 = small (going true (get_or cs i zero)) in omega arith);
      ups_small = (let s : one_if (going false (get_or cs i zero)) ≤ 1 = small (going false (get_or cs i zero)) in omega arith);
      downs = counted_more true cs i zero c.loop-crossing.downs _ c.loop-crossing-test.true v.downs (ap (λ n. c.loop-crossing.downs + n) down);
      ups = counted_more false cs i zero c.loop-crossing.ups _ c.loop-crossing-test.true v.ups (ap (λ n. c.loop-crossing.ups + n) up);
      reached = subst (λ n. Reached cs (i + 1) c.args.width n) (sym top) near;
      content = subst (λ n. Content old next c.args.odd c.args.row c.args.width n cs) (sym top) gone;
      place = λ height h raw. c.in_ok-gap.ensures.place c.args.width (omega arith) height h (v.place height h raw);
    }

pub returns-clause-exact : goal.returns-clause-exact
returns-clause-exact c = λ x y h.
    let cs = c.args.crossings.now in
    let i = c.loop-crossing.crossing-index in
    let old = c.args.spans.now.items in
    let now = c.loop-crossing.spans.items in
    let next = c.gap-2.new.spans.items in
    let at = c.loop-crossing.at in
    let v = c.loop-crossing.invariant in
    let same : (x : ℕ) → at ≤ x → x < c.args.width → x < c.args.width → crossed c.args.odd cs x ≡ c.is_inside-2.result =
    (λ x p q r. within_between c.args.odd cs i x c.args.width at c.args.width c.loop-crossing.downs c.loop-crossing.ups v.reached p r q
    (λ j d k l. absurd (omega arith)) v.downs v.ups ∙ sym c.is_inside-2.ensures) in
    let gone : Content old next c.args.odd c.args.row c.args.width (max at c.args.width) cs = content_more old now next c.args.odd c.args.row c.args.width at c.args.width cs c.is_inside-2.result v.content c.in_ok-gap-2.ensures.exact same in
    content_all old next c.args.odd c.args.row c.args.width (max at c.args.width) cs (omega arith) gone x y h

pub returns-clause-place : goal.returns-clause-place
returns-clause-place c = λ height h raw. c.in_ok-gap-2.ensures.place c.args.width (omega arith) height h (c.loop-crossing.invariant.place height h raw)
