use Rattle.std.proofs.Common.{◌≡◌}
use Rattle.std.specs.Cmp.Lexicographic.{pointwise}
use Rattle.std.specs.BTreeMap.{keys}
use Rattle.ps_objects.specs.contracts.key.KeyPartialEq.TheImpl as key_eq
use Rattle.vm_content.proofs.content.are_keys.Given as goal

-- the keys to come are equal where all are
abbrev pub invariant-loop-key : goal.invariant-loop-key
invariant-loop-key l = pointwise key_eq.ghosts.eq l.key-iterator l.rest ≡ pointwise key_eq.ghosts.eq (keys l.entries) l.keys
