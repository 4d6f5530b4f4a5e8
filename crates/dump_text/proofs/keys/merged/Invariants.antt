use Rattle.std.proofs.Common.{◌≡◌, ◌≤◌, ◌+◌, ◌-◌, ◌++◌, drop, length}
use Rattle.dump_text.specs.Keys.{merged}
use Rattle.dump_text.proofs.keys.merged.Given as goal

-- what is left gives what the whole gives
abbrev pub invariant-pairs : goal.invariant-pairs
invariant-pairs l = (l.first ≤ length l.before) × (l.second ≤ length l.now) × (l.keys ++ merged (drop l.first l.before) (drop l.second l.now) ≡ merged l.before l.now)

abbrev pub decreases-pairs : goal.decreases-pairs
decreases-pairs l = (length l.before - l.first) + (length l.now - l.second)
