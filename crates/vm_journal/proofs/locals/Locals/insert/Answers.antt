use Rattle.std.proofs.Common.{◌≡◌, true, reverse, subst, sym, ap, ◌∙◌}
use Rattle.std.specs.FinMap.{insert}
use Rattle.std.specs.List.{AllByRecursion}
use Rattle.ps_memory.specs.Memory.{newer}
use Rattle.vm_journal.specs.Part.{Part}
use Rattle.vm_journal.proofs.Parting.{part_inserted}
use Rattle.vm_journal.proofs.locals.Locals.insert.Goals as goal
use Rattle.vm_content.specs.Maps.{cells_of}

pub returns-clause-ok : goal.returns-clause-ok
returns-clause-ok c =
    let newest = subst (λ (p : Part). AllByRecursion (λ k. newer c.args.cell k.0 ≡ true) p.kept) (sym c.self.view_is) c.requires.newest in
    part_inserted (reverse c.self.inside.saves.items) (cells_of c.self.inside.cells) (cells_of c.insert_cell.new.cells) c.args.cell c.args.content c.in_ok-insert_cell.ensures.ok newest
    ∙ ap (λ (p : Part). record { cells = insert p.cells c.args.cell c.args.content; kept = p.kept }) c.self.view_is
