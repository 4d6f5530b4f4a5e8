use Rattle.std.proofs.Common.{sym, ◌∙◌}
use Rattle.vm_committed.proofs.WholeClosing.{other_copy, other_older, other_strings}
use Rattle.vm_committed.proofs.cells.close_until.Goals as goal
use Rattle.vm_content.specs.Maps.{cells_of}

pub loop-closed-preserved : goal.loop-closed-preserved
loop-closed-preserved c =
    let closes = rw c.in-Some.is at c.in_ok-closed.ensures.closed in
    let other = sym c.eq.ensures ∙ c.if-eq.false in
    let (copy, older, strings, cells, fewer) = c.loop-closed.invariant in
    let name = c.args.name in
    let s = c.in-Some.closed in
    let old = c.loop-closed.locals in
    let new = c.close.new.self in
    let before = cells_of c.loop-closed.strings in
    let after = cells_of c.close.new.strings in (
      other_copy name s old new before after closes other ∙ copy,
      other_older name s old new before after closes other ∙ older,
      other_strings name s old new before after closes other (λ n. c.requires.open (sym copy ∙ n)) ∙ strings,
      c.close.ensures.cells,
      λ q e. c.close.ensures.fewer q (fewer q e),
    )
