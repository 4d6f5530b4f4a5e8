use Rattle.std.proofs.Common.{refl, ap, ◌∙◌}
use Rattle.std.specs.FinMap.{get}
use Rattle.ps_memory.specs.Memory.{Memory}
use Rattle.vm_committed.specs.contracts.cells.Cells.{the_view}
use Rattle.vm_committed.proofs.WholeMaking.{holders_made}
use Rattle.vm_committed.proofs.cells.Cells.make_held.Goals as goal

pub invariant_of-self-2 : goal.invariant_of-self-2
invariant_of-self-2 c =
    let cell = c.args.cell in
    let none = ap (λ (M : Memory). get M.strings cell) c.self.view_is ∙ c.requires.unused in
    holders_made (the_view c.self.inside) c.insert_held.new.locals _ _ cell c.args.content c.in_ok-insert_held.ensures.locals c.in_ok-insert_held.ensures.globals (λ _. none) (λ d i. refl) c.self.invariant
