use Rattle.std.proofs.Common.{Some, sym, ap, ◌∙◌, true≢false}
use Rattle.ps_memory.specs.Holders.{holds_string}
use Rattle.vm_committed.specs.contracts.cells.Cells.{the_view}
use Rattle.vm_committed.proofs.WholeMaking.{holders_made, inserted_elsewhere}
use Rattle.vm_committed.proofs.cells.Cells.make_string.Goals as goal

pub invariant_of-self-2 : goal.invariant_of-self-2
invariant_of-self-2 c = holders_made (the_view c.self.inside) c.insert_string.new.locals _ _ c.args.cell c.args.content c.in_ok-insert_string.ensures.locals c.in_ok-insert_string.ensures.globals
    (λ bare. absurd (true≢false (sym (ap (λ x. holds_string (Some x)) c.requires.string) ∙ bare))) (λ d i. inserted_elsewhere _ _ c.args.cell d _ c.in_ok-insert_string.ensures.bytes i) c.self.invariant
