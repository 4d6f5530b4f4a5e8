use Rattle.std.proofs.Common.{◌≡◌, ◌<◌, take, map, length}
use Rattle.dense_dict.specs.Index.{hashes, IsLinked}
use Rattle.dense_dict.proofs.hash_index.HashIndex.grown.Given as goal

abbrev pub invariant-loop-link : goal.invariant-loop-link
invariant-loop-link l = (hashes l.index ≡ map (λ k. k.hash) (take l.link-index l.link-items)) × IsLinked l.index × (0 < length l.index.heads.items)
