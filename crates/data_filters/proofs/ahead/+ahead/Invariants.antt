use Rattle.std.proofs.Common.{◌≡◌, ◌+◌, ◌-◌, ◌*◌, length}
use Rattle.data_filters.specs.Rests.{size}
use Rattle.data_filters.specs.Codes.{past_white}
use Rattle.data_filters.specs.Layers.{source_of, rest}
use Rattle.data_filters.proofs.FoundLemmas.{GroupStands}
use Rattle.data_filters.proofs.RunLemmas.{LiteralStands}
use Rattle.data_filters.proofs.ahead.+ahead.Given as goal

abbrev pub decreases-read : goal.decreases-read
decreases-read l = 4 * l.source

abbrev pub decreases-unpassed : goal.decreases-unpassed
decreases-unpassed l = 4 * l.source + 1

abbrev pub decreases-literal_code : goal.decreases-literal_code
decreases-literal_code l = 4 * l.source + 1

abbrev pub decreases-group_code : goal.decreases-group_code
decreases-group_code l = 4 * l.source + 2

abbrev pub decreases-hex_code : goal.decreases-hex_code
decreases-hex_code l = 4 * l.source + 2

abbrev pub decreases-run_code : goal.decreases-run_code
decreases-run_code l = 4 * l.source + 2

abbrev pub decreases-next_code : goal.decreases-next_code
decreases-next_code l = 4 * l.source + 3

abbrev pub invariant-unpassed-white : goal.invariant-unpassed-white
invariant-unpassed-white l =
    record {
      same : length l.ahead.standings ≡ length l.initial.ahead.standings;
      left : past_white (rest l.text (source_of l.layers l.source) l.initial.ahead) ≡ past_white (rest l.text (source_of l.layers l.source) l.ahead);
    }

abbrev pub decreases-unpassed-white : goal.decreases-unpassed-white
decreases-unpassed-white l = size (rest l.text (source_of l.layers l.source) l.ahead)

abbrev pub invariant-group_code-characters : goal.invariant-group_code-characters
invariant-group_code-characters l =
    record {
      same : length l.ahead.standings ≡ length l.initial.ahead.standings;
      stands : GroupStands (rest l.text (source_of l.layers l.source) l.initial.ahead) l.missing l.value (rest l.text (source_of l.layers l.source) l.ahead);
    }

abbrev pub decreases-group_code-characters : goal.decreases-group_code-characters
decreases-group_code-characters l = l.missing

abbrev pub invariant-literal_code-bytes : goal.invariant-literal_code-bytes
invariant-literal_code-bytes l =
    record {
      same : length l.ahead.standings ≡ length l.initial.ahead.standings;
      stands : LiteralStands (rest l.text (source_of l.layers l.source) l.initial.ahead) l.count l.bytes (rest l.text (source_of l.layers l.source) l.ahead);
    }

abbrev pub decreases-literal_code-bytes : goal.decreases-literal_code-bytes
decreases-literal_code-bytes l = l.count - length l.bytes
