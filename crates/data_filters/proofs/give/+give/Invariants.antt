use Rattle.std.proofs.Common.{◌≡◌, ◌+◌, ◌*◌, length}
use Rattle.filter_tower.specs.Layers.{kind_at}
use Rattle.data_filters.specs.Rests.{size}
use Rattle.data_filters.specs.Codes.{length_taken}
use Rattle.data_filters.specs.Layers.{source_below, rest, taking, give}
use Rattle.data_filters.proofs.give.+give.Given as goal

abbrev pub decreases-give : goal.decreases-give
decreases-give l = 5 * l.source

abbrev pub decreases-take : goal.decreases-take
decreases-take l = 5 * l.layer + 1

abbrev pub decreases-end_layer : goal.decreases-end_layer
decreases-end_layer l = 5 * l.layer + 2

abbrev pub decreases-settle : goal.decreases-settle
decreases-settle l = 5 * l.layer + 3

abbrev pub decreases-take_code : goal.decreases-take_code
decreases-take_code l = 5 * l.layer + 4

abbrev pub invariant-take-bytes : goal.invariant-take-bytes
invariant-take-bytes l =
    record {
      same : length l.now.standings ≡ length l.initial.now.standings;
      ahead : length l.ahead.standings ≡ length l.initial.ahead.standings;
      taken :
          taking (length_taken (kind_at l.layers l.layer) (rest l.text (source_below l.layers l.layer) l.now) l.left) (give l.text (source_below l.layers l.layer)) l.now
          ≡ taking (length_taken (kind_at l.layers l.layer) (rest l.text (source_below l.layers l.layer) l.initial.now) l.fn.taken) (give l.text (source_below l.layers l.layer)) l.initial.now;
    }

abbrev pub decreases-take-bytes : goal.decreases-take-bytes
decreases-take-bytes l = size (rest l.text (source_below l.layers l.layer) l.now)
