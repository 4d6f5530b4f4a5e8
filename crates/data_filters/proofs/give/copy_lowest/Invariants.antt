use Rattle.std.proofs.Common.{◌≡◌, ◌<◌, ℕ, length}
use Rattle.data_filters.specs.Layers.{standing_at}
use Rattle.data_filters.proofs.give.copy_lowest.Given as goal

abbrev pub invariant-layers : goal.invariant-layers
invariant-layers l =
    record {
      place : l.ahead.place ≡ l.now.place;
      same : length l.ahead.standings ≡ length l.initial.ahead.standings;
      lowest : (k : ℕ) → k < l.layer → standing_at l.ahead k ≡ standing_at l.now k;
    }
