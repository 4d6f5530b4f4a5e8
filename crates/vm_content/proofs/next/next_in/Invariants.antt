use Rattle.std.proofs.Common.{◌≡◌}
use Rattle.std.specs.declared.ops.Bound.TheVariants.{Unbounded}
use Rattle.std.specs.BTreeMap.Range.{entries_between}
use Rattle.ps_memory.specs.Order.{cell_cmp}
use Rattle.vm_content.specs.Next.{is_in, bound_after, first_where}
use Rattle.vm_content.proofs.next.next_in.Given as goal

-- the first of the space to come is the first of all
abbrev pub invariant-loop-cell : goal.invariant-loop-cell
invariant-loop-cell l = first_where (is_in l.space) l.cell-iterator ≡ first_where (is_in l.space) (entries_between cell_cmp (bound_after l.fn.after) Unbounded l.cells.entries)
