use Rattle.std.proofs.Common.{◌≡◌, length, drop, refl, sym, ap, subst, ◌∙◌, arith, suc, ◌-◌, ◌<◌, ◌≤◌}
use Rattle.data_filters.specs.declared.given.Given.TheVariants.{Byte, End, Bad}
use Rattle.data_filters.specs.Rests.{Rest, byte}
use Rattle.data_filters.specs.Codes.{past_white}
use Rattle.data_filters.specs.Layers.{source_of, rest}
use Rattle.data_filters.proofs.CodeLemmas.{differs}
use Rattle.data_filters.proofs.FoundLemmas.{GroupStands, finds_second, small_value, group_grows, finds_group, finds_without_character, finds_behind_tilde}
use Rattle.data_filters.proofs.RunLemmas.{literal_grows, finds_literal, finds_cut_literal, finds_broken_literal, finds_part, finds_part_end}
use Rattle.data_filters.proofs.SourceLemmas.{text_rest, reads_text, reads_pending, reads_ended, reads_failed, reads_code}
use Rattle.data_filters.proofs.ahead.+ahead.Goals as goal

pub group_code-returns-in-End-clause-found : goal.group_code-returns-in-End-clause-found
group_code-returns-in-End-clause-found t c =
    λ so_far. rw c.without_character.ensures (finds_without_character so_far c.characters.missing c.characters.value _ _ _ End c.characters-test.true c.characters.invariant.stands tt c.in-End.ensures.yields)

pub group_code-returns-in-Bad-clause-found : goal.group_code-returns-in-Bad-clause-found
group_code-returns-in-Bad-clause-found t c =
    λ so_far. rw c.without_character-in-Bad.ensures (finds_without_character so_far c.characters.missing c.characters.value _ _ _ Bad c.characters-test.true c.characters.invariant.stands tt c.in-Bad.ensures.yields)

pub group_code-returns-then-byte-eq126-clause-found : goal.group_code-returns-then-byte-eq126-clause-found
group_code-returns-then-byte-eq126-clause-found t c =
    λ so_far.
    let now : Rest = rest c.args.text.now (source_of c.args.layers.now c.args.source) c.characters.ahead in
    let middle : Rest = rest c.args.text.now (source_of c.args.layers.now c.args.source) c.unpassed.new.ahead in
    let tilde_is : past_white now ≡ byte 126 middle = c.in-Byte.ensures.yields ∙ ap (λ b. byte b middle) c.if-byte-eq126.true in
    rw c.behind_tilde.ensures (finds_behind_tilde so_far c.characters.missing c.characters.value _ now middle _ c.read.result c.characters-test.true c.characters.invariant.stands tilde_is c.read.ensures.yields)

pub group_code-returns-then-not-is_character-clause-found : goal.group_code-returns-then-not-is_character-clause-found
group_code-returns-then-not-is_character-clause-found t c =
    λ so_far. rw c.without_character-then-not-is_character.ensures
    (finds_without_character so_far c.characters.missing c.characters.value _ _ _ (Byte c.in-Byte.byte) c.characters-test.true c.characters.invariant.stands
    (sym c.if-not-is_character.ensures, differs c.in-Byte.byte 126 c.if-byte-eq126.false) c.in-Byte.ensures.yields)

pub group_code-overflow_mul-value : goal.group_code-overflow_mul-value
group_code-overflow_mul-value t c =
    omega (arith, small_value c.characters.missing c.characters.value c.characters.invariant.stands.within c.characters.invariant.stands.small)

pub group_code-overflow_add-value : goal.group_code-overflow_add-value
group_code-overflow_add-value t c =
    omega (arith, small_value c.characters.missing c.characters.value c.characters.invariant.stands.within c.characters.invariant.stands.small)

pub group_code-characters-preserved : goal.group_code-characters-preserved
group_code-characters-preserved t c = record {
  same = c.unpassed.ensures.same ∙ c.characters.invariant.same;
  stands = group_grows _ _ _ c.characters.missing c.characters.value c.in-Byte.byte c.characters-test.true c.characters.invariant.stands c.in-Byte.ensures.yields (sym c.if-not-is_character.ensures);
}

pub group_code-group_of-requires : goal.group_code-group_of-requires
group_code-group_of-requires t c =
    omega (arith, small_value c.characters.missing c.characters.value c.characters.invariant.stands.within c.characters.invariant.stands.small)

pub group_code-returns-clause-found : goal.group_code-returns-clause-found
group_code-returns-clause-found t c =
    λ so_far.
    let none : c.characters.missing ≡ 0 = omega (arith, c.characters-test.false) in
    let stands = subst (λ m. GroupStands (rest c.args.text.now (source_of c.args.layers.now c.args.source) c.args.ahead.now) m c.characters.value
    (rest c.args.text.now (source_of c.args.layers.now c.args.source) c.characters.ahead)) none c.characters.invariant.stands
    in
    rw c.group_of.ensures (finds_group so_far c.characters.value _ _ _ stands refl)

pub hex_code-returns-in-Some-clause-found : goal.hex_code-returns-in-Some-clause-found
hex_code-returns-in-Some-clause-found t c =
    λ so_far. rw c.behind_digit.ensures
    (finds_second so_far c.in-Byte.byte c.in-Some.high _ _ _ c.unpassed-in-Some.result c.in-Byte.ensures.yields c.in-Some.ensures.value c.in-Some.ensures.range c.unpassed-in-Some.ensures.yields)

pub literal_code-bytes-preserved : goal.literal_code-bytes-preserved
literal_code-bytes-preserved t c =
    let below : length c.bytes.bytes < c.args.count = omega (arith, c.bytes-test.true, c.len.ensures.len) in
    rw c.push.ensures (record {
      same = c.read.ensures.same ∙ c.bytes.invariant.same;
      stands = literal_grows _ _ _ c.args.count c.in-Byte.byte c.bytes.bytes below c.bytes.invariant.stands c.in-Byte.ensures.yields;
    })

pub literal_code-returns-in-End-clause-found : goal.literal_code-returns-in-End-clause-found
literal_code-returns-in-End-clause-found t c =
    rw c.literal_found.ensures (finds_cut_literal _ _ _ c.args.count c.bytes.bytes c.bytes.invariant.stands c.in-End.ensures.yields)

pub literal_code-returns-in-Bad-clause-found : goal.literal_code-returns-in-Bad-clause-found
literal_code-returns-in-Bad-clause-found t c =
    let below : length c.bytes.bytes < c.args.count = omega (arith, c.bytes-test.true, c.len.ensures.len) in
    rw c.whole.ensures (finds_broken_literal _ _ _ c.args.count c.bytes.bytes below c.bytes.invariant.stands c.in-Bad.ensures.yields)

pub literal_code-returns-clause-found : goal.literal_code-returns-clause-found
literal_code-returns-clause-found t c =
    let full : c.args.count ≤ length c.bytes.bytes = omega (arith, c.bytes-test.false, c.len.ensures.len) in
    rw c.literal_found-2.ensures (finds_literal _ _ c.args.count c.bytes.bytes full c.bytes.invariant.stands)

pub next_code-returns-in-Some-clause-found : goal.next_code-returns-in-Some-clause-found
next_code-returns-in-Some-clause-found t c =
    rw (c.in-SubFile.is, c.whole.ensures)
    (finds_part_end c.args.given c.in-SubFile.count c.in-Some.taken c.in-SubFile.mark (drop c.args.ahead.now.place c.args.text.now) _ _
    (λ needs. text_rest c.args.text.now c.args.layers.now c.args.source c.args.ahead.now (c.requires.marks (rw c.in-SubFile.is needs)))
    (rw c.as_slice.ensures at c.in-Some.ensures))

pub next_code-returns-in_default-clause-found : goal.next_code-returns-in_default-clause-found
next_code-returns-in_default-clause-found t c =
    rw (c.in-SubFile.is, c.by_itself.ensures)
    (finds_part c.args.given c.in-SubFile.count c.in-SubFile.mark (drop c.args.ahead.now.place c.args.text.now) _ _ c.read.result
    (λ needs. text_rest c.args.text.now c.args.layers.now c.args.source c.args.ahead.now (c.requires.marks (rw c.in-SubFile.is needs)))
    (rw c.as_slice.ensures at c.in_default.ensures) c.read.ensures.yields)

pub next_code-returns-in-Hex-clause-found : goal.next_code-returns-in-Hex-clause-found
next_code-returns-in-Hex-clause-found t c = rw c.in-Hex.is (c.hex_code.ensures.found c.args.given)

pub next_code-returns-in-Base85-clause-found : goal.next_code-returns-in-Base85-clause-found
next_code-returns-in-Base85-clause-found t c = rw c.in-Base85.is (c.group_code.ensures.found c.args.given)

pub next_code-returns-in-RunLength-clause-found : goal.next_code-returns-in-RunLength-clause-found
next_code-returns-in-RunLength-clause-found t c = rw c.in-RunLength.is (c.run_code.ensures.found c.args.given)

pub read-returns-then-source-eq0-clause-yields : goal.read-returns-then-source-eq0-clause-yields
read-returns-then-source-eq0-clause-yields t c =
    reads_text c.args.text.now c.args.layers.now c.args.source c.args.ahead.now c.text_byte.new.self c.text_byte.result c.if-source-eq0.true c.text_byte.ensures

pub read-returns-in-Some-clause-yields : goal.read-returns-in-Some-clause-yields
read-returns-in-Some-clause-yields t c =
    let up : c.args.source ≡ suc (c.args.source - 1) = omega (arith, c.if-source-eq0.false) in
    reads_pending c.args.text.now c.args.layers.now c.args.source (c.args.source - 1) c.in-Some.byte c.args.ahead.now c.pending_byte.new.self
    c.requires.tower c.requires.stands up c.requires.room c.in-Some.ensures

pub read-returns-in-Ended-clause-yields : goal.read-returns-in-Ended-clause-yields
read-returns-in-Ended-clause-yields t c =
    let up : c.args.source ≡ suc (c.args.source - 1) = omega (arith, c.if-source-eq0.false) in
    reads_ended c.args.text.now c.args.layers.now c.args.source (c.args.source - 1) c.args.ahead.now c.pending_byte.new.self c.at-standing.result.now
    c.requires.tower c.requires.stands up c.in_default.ensures c.at-standing.ensures c.in-Ended.is

pub read-returns-in-Failed-clause-yields : goal.read-returns-in-Failed-clause-yields
read-returns-in-Failed-clause-yields t c =
    let up : c.args.source ≡ suc (c.args.source - 1) = omega (arith, c.if-source-eq0.false) in
    reads_failed c.args.text.now c.args.layers.now c.args.source (c.args.source - 1) c.args.ahead.now c.pending_byte.new.self c.at-standing.result.now
    c.requires.tower c.requires.stands up c.in_default.ensures c.at-standing.ensures c.in-Failed.is

pub read-returns-in-Open-clause-yields : goal.read-returns-in-Open-clause-yields
read-returns-in-Open-clause-yields t c =
    let up : c.args.source ≡ suc (c.args.source - 1) = omega (arith, c.if-source-eq0.false) in
    reads_code c.args.text.now c.args.layers.now c.args.source (c.args.source - 1) c.args.ahead.now c.pending_byte.new.self c.next_code-found.new.ahead c.begin.new.self
    c.next_code-found.result c.begin.result c.at-standing.result.now c.index-layers-layer.result c.index-layers-layer-in-Open.result
    c.requires.tower c.requires.stands up c.requires.room c.in_default.ensures c.at-standing.ensures c.in-Open.is
    c.next_code-found.ensures.found c.next_code-found.ensures.same c.begin.ensures
