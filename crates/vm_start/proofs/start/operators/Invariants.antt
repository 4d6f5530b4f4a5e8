use Rattle.std.proofs.Common.{◌≡◌, ◌≤◌}
use Rattle.std.specs.FinMap.{from_entries}
use Rattle.ps_memory.specs.Order.{key_cmp}
use Rattle.vm_start.specs.StartMaps.{operators_between}
use Rattle.vm_start.proofs.start.operators.Given as goal
use Rattle.vm_content.specs.Maps.{entries_of}

abbrev pub invariant-loop-index : goal.invariant-loop-index
invariant-loop-index l = record {
  low : l.from ≤ l.index;
  high : l.index ≤ l.to;
  made : entries_of l.entries ≡ from_entries (operators_between l.index l.to);
}
