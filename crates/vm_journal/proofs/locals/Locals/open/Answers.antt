use Rattle.std.proofs.Common.{◌≡◌, true, None, ◌∷◌, reverse, subst, sym, ap, ◌∙◌}
use Rattle.std.specs.FinMap.{get}
use Rattle.std.specs.List.{AllByRecursion}
use Rattle.ps_objects.specs.declared.cell.Cell.{Cell}
use Rattle.ps_memory.specs.Memory.{newer}
use Rattle.ps_memory.specs.Frame.{later}
use Rattle.vm_journal.specs.Part.{Part}
use Rattle.vm_journal.proofs.Parting.{part_opened, rising_opened}
use Rattle.vm_journal.proofs.locals.Locals.open.Goals as goal
use Rattle.vm_content.specs.Maps.{cells_of}

pub invariant_of-self-2 : goal.invariant_of-self-2
invariant_of-self-2 c =
    let latest = subst (λ (p : Part). AllByRecursion (λ k. later c.args.name k.0 ≡ true) p.kept) (sym c.self.view_is) c.requires.latest in (
      c.self.invariant.0,
      rising_opened c.args.name (reverse c.self.inside.saves.items) (reverse c.add_save.new.saves.items) c.new-save.result (cells_of c.self.inside.cells)
          c.in_ok-add_save.ensures.ok c.new-save.ensures latest c.self.invariant.1,
    )

pub returns-clause-ok : goal.returns-clause-ok
returns-clause-ok c =
    let newest = subst (λ (p : Part). (q : Cell) → newer q c.args.name ≡ true → get p.cells q ≡ None) (sym c.self.view_is) c.requires.newest in
    part_opened c.args.name (reverse c.self.inside.saves.items) (reverse c.add_save.new.saves.items) c.new-save.result (cells_of c.self.inside.cells)
    c.in_ok-add_save.ensures.ok c.new-save.ensures newest
    ∙ ap (λ (p : Part). record { cells = p.cells; kept = (c.args.name, p.cells) ∷ p.kept }) c.self.view_is
