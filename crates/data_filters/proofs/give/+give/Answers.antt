use Rattle.std.proofs.Common.{◌≡◌, length, sym, ap, ◌∙◌, arith, List, suc, ◌-◌, ◌≤◌}
use Rattle.data_filters.specs.declared.given.Given.TheVariants.{End, Bad}
use Rattle.std.specs.Prelude.{slice_set}
use Rattle.filter_tower.specs.declared.standing.Standing.{Standing}
use Rattle.filter_tower.specs.Layers.{kind_at}
use Rattle.data_filters.specs.declared.code.Code.TheVariants.{Gives, Ends, EndsWithSource, Wrong}
use Rattle.data_filters.specs.declared.reading.Reading.{Reading}
use Rattle.data_filters.specs.Rests.{has_byte}
use Rattle.data_filters.specs.Codes.{left_behind}
use Rattle.data_filters.specs.Layers.{code_taken, source_below, rest, give}
use Rattle.data_filters.proofs.TakeLemmas.{taken_from_text, gives_text, gives_pending, gives_end, gives_fault, gives_code, settled_not_at, settled_at, taken_none, taken_some, taken_end, taken_all, taken_wrong, one_taken, no_end, no_fault, below_source, kind_is}
use Rattle.data_filters.proofs.give.+give.Goals as goal

pub give-returns-then-source-eq0-clause-given : goal.give-returns-then-source-eq0-clause-given
give-returns-then-source-eq0-clause-given t c =
    gives_text c.args.text.now c.args.layers.now c.args.source c.args.now.now c.text_byte.new.self c.text_byte.result c.if-source-eq0.true c.text_byte.ensures

pub give-returns-in-Some-clause-given : goal.give-returns-in-Some-clause-given
give-returns-in-Some-clause-given t c =
    let up : c.args.source ≡ suc (c.args.source - 1) = omega (arith, c.if-source-eq0.false) in
    gives_pending c.args.text.now c.args.layers.now c.args.source (c.args.source - 1) c.in-Some.byte c.args.now.now c.pending_byte.new.self c.settle.new.now
    c.requires.tower c.requires.stands up c.in-Some.ensures c.settle.ensures.settled

pub give-returns-in-Ended-clause-given : goal.give-returns-in-Ended-clause-given
give-returns-in-Ended-clause-given t c =
    let up : c.args.source ≡ suc (c.args.source - 1) = omega (arith, c.if-source-eq0.false) in
    gives_end c.args.text.now c.args.layers.now c.args.source (c.args.source - 1) c.args.now.now c.pending_byte.new.self c.at.result.now
    c.requires.tower c.requires.stands up c.in_default.ensures c.at.ensures c.in-Ended.is

pub give-returns-in-Failed-clause-given : goal.give-returns-in-Failed-clause-given
give-returns-in-Failed-clause-given t c =
    let up : c.args.source ≡ suc (c.args.source - 1) = omega (arith, c.if-source-eq0.false) in
    gives_fault c.args.text.now c.args.layers.now c.args.source (c.args.source - 1) c.args.now.now c.pending_byte.new.self c.at.result.now
    c.requires.tower c.requires.stands up c.in_default.ensures c.at.ensures c.in-Failed.is

pub give-returns-in-Open-clause-given : goal.give-returns-in-Open-clause-given
give-returns-in-Open-clause-given t c =
    let up : c.args.source ≡ suc (c.args.source - 1) = omega (arith, c.if-source-eq0.false) in
    gives_code c.args.text.now c.args.layers.now c.args.source (c.args.source - 1) c.args.now.now c.pending_byte.new.self c.take_code.new.now c.at.result.now c.take_code.result
    c.requires.tower c.requires.stands up c.in_default.ensures c.at.ensures c.in-Open.is c.take_code.ensures.given

pub settle-returns-then-not-is_spent-clause-settled : goal.settle-returns-then-not-is_spent-clause-settled
settle-returns-then-not-is_spent-clause-settled t c = settled_not_at c.args.text.now c.args.layer (kind_at c.args.layers.now c.args.layer) (source_below c.args.layers.now c.args.layer) (give c.args.text.now (source_below c.args.layers.now c.args.layer)) c.args.now.now c.at.result.now c.at.ensures c.if-not-is_spent.ensures

pub settle-returns-in-Gives-clause-settled : goal.settle-returns-in-Gives-clause-settled
settle-returns-in-Gives-clause-settled t c =
    settled_at c.args.text.now c.args.layer (kind_at c.args.layers.now c.args.layer) (source_below c.args.layers.now c.args.layer) (give c.args.text.now (source_below c.args.layers.now c.args.layer)) c.args.now.now c.at.result.now (Gives c.in-Gives.bytes c.in-Gives.taken) c.at.ensures c.if-not-is_spent.ensures c.in-Gives.ensures.value

pub settle-returns-in-Wrong-clause-settled : goal.settle-returns-in-Wrong-clause-settled
settle-returns-in-Wrong-clause-settled t c =
    settled_at c.args.text.now c.args.layer (kind_at c.args.layers.now c.args.layer) (source_below c.args.layers.now c.args.layer) (give c.args.text.now (source_below c.args.layers.now c.args.layer)) c.args.now.now c.at.result.now Wrong c.at.ensures c.if-not-is_spent.ensures c.in-Wrong.ensures.value

pub settle-returns-in-Ends-clause-settled : goal.settle-returns-in-Ends-clause-settled
settle-returns-in-Ends-clause-settled t c =
    c.end_layer.ensures.ended ∙ settled_at c.args.text.now c.args.layer (kind_at c.args.layers.now c.args.layer) (source_below c.args.layers.now c.args.layer) (give c.args.text.now (source_below c.args.layers.now c.args.layer)) c.args.now.now c.at.result.now (Ends c.in-Ends.taken) c.at.ensures c.if-not-is_spent.ensures c.in-Ends.ensures.value

pub settle-returns-in-EndsWithSource-clause-settled : goal.settle-returns-in-EndsWithSource-clause-settled
settle-returns-in-EndsWithSource-clause-settled t c =
    c.end_layer-in-EndsWithSource.ensures.ended ∙ settled_at c.args.text.now c.args.layer (kind_at c.args.layers.now c.args.layer) (source_below c.args.layers.now c.args.layer) (give c.args.text.now (source_below c.args.layers.now c.args.layer)) c.args.now.now c.at.result.now EndsWithSource c.at.ensures c.if-not-is_spent.ensures c.in-EndsWithSource.ensures.value

pub take-bytes-smaller : goal.take-bytes-smaller
take-bytes-smaller t c =
    let below = below_source c.args.layers.now c.args.layer c.index-layers-layer.result c.requires.stands in
    let room : length c.args.layers.now ≤ length c.bytes.now.standings = omega (arith, c.requires.now, c.bytes.invariant.same) in
    (one_taken c.args.text.now c.args.layers.now c.args.layer c.in-Byte.byte (kind_at c.args.layers.now c.args.layer) c.bytes.left c.bytes.now c.give.new.now
    c.requires.tower c.requires.stands room (sym c.bytes-test.ensures) (ap (λ s. give c.args.text.now s c.bytes.now) (sym below) ∙ c.in-Byte.ensures.given)).1

pub take-bytes-preserved : goal.take-bytes-preserved
take-bytes-preserved t c =
    let below = below_source c.args.layers.now c.args.layer c.index-layers-layer.result c.requires.stands in
    let room : length c.args.layers.now ≤ length c.bytes.now.standings = omega (arith, c.requires.now, c.bytes.invariant.same) in
    let left = c.left_behind-left.ensures ∙ ap (λ x. left_behind x c.in-Byte.byte c.bytes.left) (kind_is c.args.layers.now c.args.layer c.index-layers-layer-in-Byte.result c.requires.stands) in
    record {
      same = c.give.ensures.same ∙ c.bytes.invariant.same;
      ahead = c.give.ensures.ahead ∙ c.gives_byte.ensures.same ∙ c.bytes.invariant.ahead;
      taken =
          rw left (one_taken c.args.text.now c.args.layers.now c.args.layer c.in-Byte.byte (kind_at c.args.layers.now c.args.layer) c.bytes.left c.bytes.now c.give.new.now
          c.requires.tower c.requires.stands room (sym c.bytes-test.ensures) (ap (λ s. give c.args.text.now s c.bytes.now) (sym below) ∙ c.in-Byte.ensures.given)).0
          ∙ c.bytes.invariant.taken;
    }

pub take-returns-in-End-clause-taken : goal.take-returns-in-End-clause-taken
take-returns-in-End-clause-taken t c =
    let below = below_source c.args.layers.now c.args.layer c.index-layers-layer.result c.requires.stands in
    let room : length c.args.layers.now ≤ length c.bytes.now.standings = omega (arith, c.requires.now, c.bytes.invariant.same) in
    absurd (no_end c.args.text.now c.args.layers.now c.args.layer c.bytes.now c.give.new.now c.requires.tower c.requires.stands room
    (ap (λ s. has_byte (rest c.args.text.now s c.bytes.now)) (sym below) ∙ sym c.if-not-gives_byte.ensures.value)
    (ap (λ s. give c.args.text.now s c.bytes.now) (sym below) ∙ c.in-End.ensures.given))

pub take-returns-in-Bad-clause-taken : goal.take-returns-in-Bad-clause-taken
take-returns-in-Bad-clause-taken t c =
    let below = below_source c.args.layers.now c.args.layer c.index-layers-layer.result c.requires.stands in
    let room : length c.args.layers.now ≤ length c.bytes.now.standings = omega (arith, c.requires.now, c.bytes.invariant.same) in
    absurd (no_fault c.args.text.now c.args.layers.now c.args.layer c.bytes.now c.give.new.now c.requires.tower c.requires.stands room
    (ap (λ s. has_byte (rest c.args.text.now s c.bytes.now)) (sym below) ∙ sym c.if-not-gives_byte.ensures.value)
    (ap (λ s. give c.args.text.now s c.bytes.now) (sym below) ∙ c.in-Bad.ensures.given))

pub take_code-returns-in_default-clause-given : goal.take_code-returns-in_default-clause-given
take_code-returns-in_default-clause-given t c =
    ap (code_taken c.args.text.now c.args.layer (kind_at c.args.layers.now c.args.layer) (source_below c.args.layers.now c.args.layer) (give c.args.text.now (source_below c.args.layers.now c.args.layer)) c.args.now.now) (sym c.in-Gives.ensures.value)
    ∙ taken_none c.args.text.now c.args.layer (kind_at c.args.layers.now c.args.layer) (source_below c.args.layers.now c.args.layer) (give c.args.text.now (source_below c.args.layers.now c.args.layer)) c.args.now.now c.in-Gives.bytes c.in-Gives.taken c.in_default.ensures
    ∙ ap (λ (x : List Standing). (Bad, record c.args.now.now { standings = x })) (sym (c.put.ensures ∙ ap (slice_set c.args.now.now.standings c.args.layer) c.empty.ensures))

pub take_code-returns-in-Some-clause-given : goal.take_code-returns-in-Some-clause-given
take_code-returns-in-Some-clause-given t c =
    ap (code_taken c.args.text.now c.args.layer (kind_at c.args.layers.now c.args.layer) (source_below c.args.layers.now c.args.layer) (give c.args.text.now (source_below c.args.layers.now c.args.layer)) c.args.now.now) (sym c.in-Gives.ensures.value)
    ∙ taken_some c.args.text.now c.args.layer (kind_at c.args.layers.now c.args.layer) (source_below c.args.layers.now c.args.layer) (give c.args.text.now (source_below c.args.layers.now c.args.layer))
    c.args.now.now c.take.new.now c.settle.new.now c.in-Gives.bytes c.in-Gives.taken c.in-Some.first c.at.result.now c.code_begun.result c.put-in-Gives.new.self
    c.at.ensures c.in-Some.ensures c.take.ensures.taken c.code_begun.ensures c.put-in-Gives.ensures c.settle.ensures.settled

pub take_code-returns-in-Ends-clause-given : goal.take_code-returns-in-Ends-clause-given
take_code-returns-in-Ends-clause-given t c =
    ap (code_taken c.args.text.now c.args.layer (kind_at c.args.layers.now c.args.layer) (source_below c.args.layers.now c.args.layer) (give c.args.text.now (source_below c.args.layers.now c.args.layer)) c.args.now.now) (sym c.in-Ends.ensures.value)
    ∙ taken_end c.args.text.now c.args.layer (kind_at c.args.layers.now c.args.layer) (source_below c.args.layers.now c.args.layer) (give c.args.text.now (source_below c.args.layers.now c.args.layer)) c.args.now.now c.in-Ends.taken
    ∙ ap (λ (r : Reading). (End, r)) (sym c.end_layer.ensures.ended)

pub take_code-returns-in-EndsWithSource-clause-given : goal.take_code-returns-in-EndsWithSource-clause-given
take_code-returns-in-EndsWithSource-clause-given t c =
    ap (code_taken c.args.text.now c.args.layer (kind_at c.args.layers.now c.args.layer) (source_below c.args.layers.now c.args.layer) (give c.args.text.now (source_below c.args.layers.now c.args.layer)) c.args.now.now) (sym c.in-EndsWithSource.ensures.value)
    ∙ taken_all c.args.text.now c.args.layer (kind_at c.args.layers.now c.args.layer) (source_below c.args.layers.now c.args.layer) (give c.args.text.now (source_below c.args.layers.now c.args.layer)) c.args.now.now
    ∙ ap (λ (r : Reading). (End, r)) (sym c.end_layer-in-EndsWithSource.ensures.ended)

pub take_code-returns-in-Wrong-clause-given : goal.take_code-returns-in-Wrong-clause-given
take_code-returns-in-Wrong-clause-given t c =
    ap (code_taken c.args.text.now c.args.layer (kind_at c.args.layers.now c.args.layer) (source_below c.args.layers.now c.args.layer) (give c.args.text.now (source_below c.args.layers.now c.args.layer)) c.args.now.now) (sym c.in-Wrong.ensures.value)
    ∙ taken_wrong c.args.text.now c.args.layer (kind_at c.args.layers.now c.args.layer) (source_below c.args.layers.now c.args.layer) (give c.args.text.now (source_below c.args.layers.now c.args.layer)) c.args.now.now
    ∙ ap (λ (x : List Standing). (Bad, record c.args.now.now { standings = x })) (sym (c.put-in-Wrong.ensures ∙ ap (slice_set c.args.now.now.standings c.args.layer) c.empty-in-Wrong.ensures))

pub take-returns-then-below-eq0-clause-taken : goal.take-returns-then-below-eq0-clause-taken
take-returns-then-below-eq0-clause-taken t c =
    taken_from_text c.args.text.now c.args.layers.now c.args.layer c.index-layers-layer.result c.index-layers-layer-then-below-eq0.result c.args.taken c.args.now.now c.take_text.new.now
    c.requires.stands c.if-below-eq0.true c.take_text.ensures.taken
