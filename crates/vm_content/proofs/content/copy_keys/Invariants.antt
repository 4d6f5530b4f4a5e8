use Rattle.std.proofs.Common.{◌≡◌, ◌++◌}
use Rattle.std.specs.BTreeMap.{keys}
use Rattle.vm_content.proofs.content.copy_keys.Given as goal

-- the copied keys and those to come are the map's
abbrev pub invariant-loop-key : goal.invariant-loop-key
invariant-loop-key l = l.keys ++ l.key-iterator ≡ keys l.entries
