use Rattle.std.proofs.Common.{◌≡◌, ◌<◌, length, take, drop, arith, ap, ◌∙◌, rules, tests}
use Rattle.std.proofs.lemmas.Grind.{common_steps}
use Rattle.dsc_split.proofs.WordLemmas.{word_taken, no_word}
use Rattle.dsc_split.proofs.words.WordsIterator.next.Goals as goal

pub returns-then-is_empty-clause-steps : goal.returns-then-is_empty-clause-steps
returns-then-is_empty-clause-steps c =
    let body = c.split_at.result.1.now in
    let none : length c.split_at-2.result.0.now ≡ 0 = search (rules, tests) in
    no_word c.args.self.now.rest.now body c.split_at-2.result.0.now c.split_at-2.result.1.now
    (c.split_at.ensures.back ∙ ap (λ n. drop n c.args.self.now.rest.now) c.blank_len.ensures.value)
    (c.split_at-2.ensures.front ∙ ap (λ n. take n body) c.length_before.ensures.value)
    (c.split_at-2.ensures.back ∙ ap (λ n. drop n body) c.length_before.ensures.value)
    none

pub returns-else-is_empty-clause-steps : goal.returns-else-is_empty-clause-steps
returns-else-is_empty-clause-steps c =
    let body = c.split_at.result.1.now in
    let some : 0 < length c.split_at-2.result.0.now = search (rules, tests) in
    word_taken c.args.self.now.rest.now body c.split_at-2.result.0.now c.split_at-2.result.1.now
    (c.split_at.ensures.back ∙ ap (λ n. drop n c.args.self.now.rest.now) c.blank_len.ensures.value)
    (c.split_at-2.ensures.front ∙ ap (λ n. take n body) c.length_before.ensures.value)
    (c.split_at-2.ensures.back ∙ ap (λ n. drop n body) c.length_before.ensures.value)
    some

pub returns-else-is_empty-clause-goes : goal.returns-else-is_empty-clause-goes
returns-else-is_empty-clause-goes c =
    let step = returns-else-is_empty-clause-steps c in
    grind (arith, common_steps, step)
