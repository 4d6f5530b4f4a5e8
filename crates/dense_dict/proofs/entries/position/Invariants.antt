use Rattle.std.proofs.Common.{◌≡◌, ◌≤◌, None, drop, length}
use Rattle.std.specs.FinMap.{find}
use Rattle.ps_memory.specs.Order.{key_cmp}
use Rattle.dense_dict.specs.Index.{has_hash, last_where}
use Rattle.dense_dict.proofs.entries.position.Given as goal

-- none of the places so far has the key, and the next has the hash
abbrev pub invariant-loop-at : goal.invariant-loop-at
invariant-loop-at l = (find key_cmp l.key (drop l.at l.entries) ≡ None) × (l.at ≡ last_where (has_hash l.hash l.index) l.at) × (l.at ≤ length l.entries)

abbrev pub decreases-loop-at : goal.decreases-loop-at
decreases-loop-at l = l.at
