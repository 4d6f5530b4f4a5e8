use Rattle.std.proofs.Common.{reverse, sym, ap}
use Rattle.std.specs.FinMap.{from_entries}
use Rattle.vm_journal.specs.Part.{Part}
use Rattle.vm_journal.proofs.Closing.{closed, closed_cells, closed_local}
use Rattle.vm_journal.proofs.locals.Locals.close.Goals as goal
use Rattle.vm_content.specs.Maps.{cells_of}

pub invariant_of-self-in_err-revert : goal.invariant_of-self-in_err-revert
invariant_of-self-in_err-revert c =
    closed_local (reverse c.self.inside.saves.items) (reverse c.take_save.new.saves.items) c.in-Some.save c.name-name.result (cells_of c.self.inside.cells)
    (from_entries c.drop_newer.new.cells.entries) (from_entries c.revert.new.cells.entries) c.in-Some.ensures.some c.drop_newer.ensures.cells c.revert.ensures.gone c.self.invariant

pub returns-in_err-revert-clause-cells : goal.returns-in_err-revert-clause-cells
returns-in_err-revert-clause-cells c =
    closed_cells c.args.self.now c.name-name.result (cells_of c.self.inside.cells) (from_entries c.drop_newer.new.cells.entries) (from_entries c.revert.new.cells.entries)
    (from_entries c.args.strings.now.entries) (from_entries c.drop_newer.new.strings.entries) (ap (λ (p : Part). p.cells) (sym c.self.view_is)) c.drop_newer.ensures.cells c.revert.ensures.kinds c.drop_newer.ensures.strings c.requires

pub invariant_of-self-2 : goal.invariant_of-self-2
invariant_of-self-2 c =
    closed_local (reverse c.self.inside.saves.items) (reverse c.take_save.new.saves.items) c.in-Some.save c.name-name.result (cells_of c.self.inside.cells)
    (from_entries c.drop_newer.new.cells.entries) (from_entries c.revert.new.cells.entries) c.in-Some.ensures.some c.drop_newer.ensures.cells c.revert.ensures.gone c.self.invariant

pub returns-clause-closed : goal.returns-clause-closed
returns-clause-closed c =
    closed c.args.self.now (reverse c.self.inside.saves.items) (reverse c.take_save.new.saves.items) c.in-Some.save c.name-name.result c.into_notes.result.entries (cells_of c.self.inside.cells)
    (from_entries c.drop_newer.new.cells.entries) (from_entries c.revert.new.cells.entries) (from_entries c.args.strings.now.entries) (from_entries c.drop_newer.new.strings.entries) c.self.view_is
    c.in-Some.ensures.some c.name-name.ensures c.into_notes.ensures c.drop_newer.ensures.cells c.in_ok-revert.ensures.ok c.drop_newer.ensures.strings c.self.invariant.1

pub returns-clause-cells : goal.returns-clause-cells
returns-clause-cells c =
    closed_cells c.args.self.now c.name-name.result (cells_of c.self.inside.cells) (from_entries c.drop_newer.new.cells.entries) (from_entries c.revert.new.cells.entries)
    (from_entries c.args.strings.now.entries) (from_entries c.drop_newer.new.strings.entries) (ap (λ (p : Part). p.cells) (sym c.self.view_is)) c.drop_newer.ensures.cells c.revert.ensures.kinds c.drop_newer.ensures.strings c.requires
