use Rattle.std.proofs.Common.{sym, ap, ◌∙◌}
use Rattle.vm_journal.specs.Part.{Part}
use Rattle.vm_cells.proofs.Asking.{later_than_newest}
use Rattle.vm_cells.proofs.asked.is_latest_in.Goals as goal

pub returns-in-Some : goal.returns-in-Some
returns-in-Some c h =
    let closed = rw c.in-Some.is at c.in_ok-newest.ensures in
    let new = c.close.new.locals in
    later_than_newest c.args.name c.in-Some.newest c.args.locals.now.kept new.kept new.cells (sym (ap (λ (p : Part). p.kept) c.in_ok-left.ensures) ∙ closed.0) (c.is_later.ensures h) closed.1
