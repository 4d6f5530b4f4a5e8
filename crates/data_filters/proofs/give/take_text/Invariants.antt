use Rattle.std.proofs.Common.{◌≡◌, ◌-◌, length}
use Rattle.data_filters.specs.Codes.{length_taken}
use Rattle.data_filters.specs.Layers.{the_text, rest, taking, give}
use Rattle.data_filters.proofs.give.take_text.Given as goal

abbrev pub invariant-bytes : goal.invariant-bytes
invariant-bytes l =
    record {
      same : l.now.standings ≡ l.initial.now.standings;
      taken :
          taking (length_taken l.kind (rest l.text the_text l.now) l.left) (give l.text the_text) l.now
          ≡ taking (length_taken l.kind (rest l.text the_text l.initial.now) l.fn.taken) (give l.text the_text) l.initial.now;
    }

abbrev pub decreases-bytes : goal.decreases-bytes
decreases-bytes l = length l.text - l.now.place
