use Rattle.std.proofs.Common.{◌≡◌, ◌+◌, ◌-◌, drop, sym, ap, ◌∙◌, arith, length-drop}
use Rattle.std.proofs.lemmas.List.{take_rest}
use Rattle.dsc_split.specs.Lines.{line_len, lines_len}
use Rattle.dsc_split.proofs.LineLemmas.{line_len_le, lines_len_more, lines_len_none, lines_len_past}
use Rattle.dsc_split.proofs.line.lines_len.Goals as goal

pub loop-left-preserved : goal.loop-left-preserved
loop-left-preserved c =
    let text = c.args.text.now in
    let len = c.loop-left.len in
    let left = c.loop-left.left in
    let taken : c.first_line.result.len ≡ line_len (drop len text) = c.first_line.ensures.len ∙ ap line_len (take_rest text len) in (
      omega (arith, line_len_le (drop len text), length-drop len text),
      ap (λ n. len + n + lines_len (left - 1) (drop (len + n) text)) taken
          ∙ sym (lines_len_more left len text (omega arith) (omega arith))
          ∙ c.loop-left.invariant.1,
    )

pub returns-else-len-text-clause-value : goal.returns-else-len-text-clause-value
returns-else-len-text-clause-value c =
    sym (lines_len_past c.loop-left.left c.loop-left.len c.args.text.now (omega arith)) ∙ c.loop-left.invariant.1

pub returns-after-loop-left-clause-value : goal.returns-after-loop-left-clause-value
returns-after-loop-left-clause-value c =
    sym (lines_len_none c.loop-left.left c.loop-left.len c.args.text.now (omega arith)) ∙ c.loop-left.invariant.1
