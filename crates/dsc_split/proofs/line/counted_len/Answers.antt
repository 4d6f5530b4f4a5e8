use Rattle.std.proofs.Common.{◌≡◌, ◌-◌, ◌^◌, List, ℕ, length, min, true, sym, ap, ◌∙◌, arith}
use Rattle.std.proofs.lemmas.Bool.{cond-true}
use Rattle.dsc_split.specs.Comments.{words, counted, counts_lines}
use Rattle.dsc_split.specs.Lines.{lines_len, counted_len}
use Rattle.dsc_split.proofs.LineLemmas.{lines_len_capped}
use Rattle.dsc_split.proofs.line.counted_len.Goals as goal

pub returns-then-count : goal.returns-then-count
returns-then-count c =
    let after = c.args.after.now in
    let counts : List (List ℕ) = words c.args.text.now in
    let by_lines : counts_lines counts ≡ true = sym c.count_of-count.ensures.by_lines ∙ c.if-count.true in
    let passed : counted_len counts after ≡ lines_len (counted counts) after = cond-true _ _ _ by_lines in
    c.lines_len.ensures.value
    ∙ lines_len_capped (counted counts) (2 ^ 64 - 1) c.count_of-count.result.number after c.count_of-count.ensures.number (omega arith)
    ∙ ap (λ len. min len (length after)) (sym passed)
