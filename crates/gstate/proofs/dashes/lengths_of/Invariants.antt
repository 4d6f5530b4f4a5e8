use Rattle.std.proofs.Common.{◌≡◌, [], drop, pos}
use Rattle.std.specs.Prelude.{◌≤ℤ◌, All}
use Rattle.gstate.specs.Dashes.{lengths_from}
use Rattle.gstate.proofs.dashes.lengths_of.Given as goal

-- the items that are left tell what all tell
abbrev pub invariant-loop-at : goal.invariant-loop-at
invariant-loop-at l =
    record {
      told : lengths_from l.lengths (drop l.at l.items) ≡ lengths_from [] l.items;
      positive : All (λ real. pos 0 ≤ℤ real.count) l.lengths;
    }
