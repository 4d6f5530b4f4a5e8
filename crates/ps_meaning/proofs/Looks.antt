-- What looks and papers leave in a log.
use Rattle.std.proofs.Common.{◌≡◌, Option, Some, None, option_map, refl, ap}
use Rattle.ps_objects.specs.declared.place.Loc.{Loc}
use Rattle.ps_objects.specs.declared.place.Loc.TheVariants as loc
use Rattle.ps_objects.specs.declared.place.Value.TheVariants as value
use Rattle.ps_memory.specs.Memory.{Memory, store, perform}
use Rattle.ps_memory.specs.Track.{Track, saw, track_acted, paper_lifted}
use Rattle.ps_memory.proofs.Seen.{seen_again}
use Rattle.ps_memory.proofs.Laying.{lifted_and_laid}
use Rattle.ps_meaning.specs.Answer.{Log, looked_in, SecondLookLaw, LayingLaw}

abbrev with_track : Memory → Option Track → Log
with_track M k = record { view = M; track = k }

pub second_look_law : SecondLookLaw
second_look_law log l = ap (with_track log.view) (go log.track)
  where
    go : (k : Option Track) → option_map (saw l) (option_map (saw l) k) ≡ option_map (saw l) k
    go None = refl
    go (Some k) = ap Some (seen_again l k)

pub laying_law : LayingLaw
laying_law log p = ap (with_track (perform (store loc.Paper (value.Paper p)) log.view)) (go log.track)
  where
    go : (k : Option Track) → option_map (track_acted (store loc.Paper (value.Paper p))) (option_map paper_lifted k) ≡ option_map (track_acted (store loc.Paper (value.Paper p))) (option_map (saw loc.Paper) k)
    go None = refl
    go (Some k) = ap Some (lifted_and_laid (value.Paper p) k)
