-- A memory with what is known of the run so far.
use Rattle.std.specs.Prelude.{◌≡◌, Bool, false, not, List, [], ◌∷◌, Option, Some, None, option_map}
use Rattle.ps_shapes.specs.Sheet.{Sheet}
use Rattle.ps_objects.specs.declared.cell.SaveName.{SaveName}
use Rattle.ps_objects.specs.declared.place.Loc.{Loc}
use Rattle.ps_objects.specs.declared.place.Loc.TheVariants as loc
use Rattle.ps_objects.specs.declared.place.Value.TheVariants as value
use Rattle.ps_memory.specs.Memory.{Memory, Action, store, save, perform, lift}
use Rattle.ps_memory.specs.Tree.{Change, action_of, look}
use Rattle.ps_memory.specs.Ownership.{has_save}
use Rattle.ps_memory.specs.Track.{Track, saw, paper_lifted, track_acted}

-- a memory, and what is known of the run so far, where the memory tells it
pub record Log : Type 0 where
  pub view : Memory
  pub track : Option Track

-- a look changes no memory, and is noted
abbrev pub looked_in : Log → Loc → Log
looked_in log l = record { view = log.view; track = option_map (saw l) log.track }

-- an action changes memory, and is noted
abbrev pub acted_in : Log → Action → Log
acted_in log w = record { view = perform w log.view; track = option_map (track_acted w) log.track }

-- the paper is looked at and taken out
abbrev pub lifted_in : Log → Log
lifted_in log = record { view = lift log.view; track = option_map paper_lifted log.track }

-- changes in order
abbrev pub changed_in : Log → List Change → Log
changed_in log [] = log
changed_in log (w ∷ ws) = changed_in (acted_in log (action_of w)) ws

-- a save that was made before the run that is told of
abbrev pub is_outer : Log → SaveName → Bool
is_outer log r = elim log.track [ None ↦ false | Some k ↦ not (has_save r k.owned.saves) ]

-- a second look at a place tells nothing new
abbrev pub SecondLookLaw : Type 0
SecondLookLaw = (log : Log) (l : Loc) → looked_in (looked_in log l) l ≡ looked_in log l

-- to lift the paper and lay another is to look at it and to store the other
abbrev pub LayingLaw : Type 0
LayingLaw = (log : Log) (p : Sheet) → acted_in (lifted_in log) (store loc.Paper (value.Paper p)) ≡ acted_in (looked_in log loc.Paper) (store loc.Paper (value.Paper p))
