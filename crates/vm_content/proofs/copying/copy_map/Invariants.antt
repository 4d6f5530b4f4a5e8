use Rattle.std.proofs.Common.{◌≡◌, ◌++◌}
use Rattle.vm_content.proofs.copying.copy_map.Given as goal

-- the copied entries and those to come are the map's
abbrev pub invariant-loop-key : goal.invariant-loop-key
invariant-loop-key g l = l.copy.entries ++ l.key-iterator ≡ l.map.entries
