use Rattle.std.proofs.Common.{◌≡◌}
use Rattle.dense_dict.specs.Index.{has_hash, shares, last_where}
use Rattle.dense_dict.proofs.hash_index.HashIndex.walk.Given as goal

-- what is left gives what the whole gives, and it is in the bucket
abbrev pub invariant-loop-at : goal.invariant-loop-at
invariant-loop-at l = (last_where (has_hash l.hash l.self) l.at ≡ last_where (has_hash l.hash l.self) l.start) × (l.at ≡ last_where (shares l.hash l.self) l.at)

abbrev pub decreases-loop-at : goal.decreases-loop-at
decreases-loop-at l = l.at
