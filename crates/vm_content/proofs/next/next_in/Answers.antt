use Rattle.std.proofs.Common.{ap, ◌∙◌, sym}
use Rattle.vm_content.specs.Next.{is_in, first_where}
use Rattle.vm_content.proofs.Nexts.{next_found}
use Rattle.vm_content.proofs.next.next_in.Goals as goal

pub returns-then-is_in : goal.returns-then-is_in
returns-then-is_in c =
    next_found c.args.space c.args.after c.args.cells.now.entries c.next.new.self c.in-Some.cell.now c.in-Some.content.now c.shape.result c.range-cell-items.ensures.ordered
    (ap (first_where (is_in c.args.space)) (sym c.in-Some.ensures.steps) ∙ c.loop-cell.invariant) (sym c.is_in.ensures ∙ c.if-is_in.true) c.shape.ensures
