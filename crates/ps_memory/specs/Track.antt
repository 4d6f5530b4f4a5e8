-- What is known of a run as it goes on, from its looks and actions alone.
use Rattle.std.specs.Prelude.{◌≡◌, cond, ◌||◌, List, [], ◌∷◌, ◌++◌, Option, Some, None}
use Rattle.ps_objects.specs.declared.cell.SaveName.{SaveName}
use Rattle.ps_objects.specs.declared.place.Loc.{Loc}
use Rattle.ps_objects.specs.declared.place.Loc.TheVariants as loc
use Rattle.ps_memory.specs.Memory.{Memory, value_at, shape_of, Action, restore, perform}
use Rattle.ps_memory.specs.Tree.{Tree, ends, looks, acts, asks, trail}
use Rattle.ps_memory.specs.Ownership.{Owned, nothing_owned, has_save, own, owns, is_among, looked, outer}
use Rattle.ps_memory.specs.Writes.{with_empty_paper, note, writes}

-- what is owned, what was looked at while it wasn't owned, in order, and the writes
pub record Track : Type 0 where
  pub owned : Owned
  pub seen : List Loc
  pub written : List Action

-- a look is noted where its place is neither owned nor seen yet
abbrev pub saw : Loc → Track → Track
saw l k = record { owned = k.owned; seen = cond (owns k.owned l || is_among l k.seen) k.seen (k.seen ++ l ∷ []); written = k.written }

-- the paper is looked at and taken out: while it is out, what the writes store there is paper of no size
abbrev pub paper_lifted : Track → Track
paper_lifted k = record { owned = (saw loc.Paper k).owned; seen = (saw loc.Paper k).seen; written = with_empty_paper k.written }

-- an action owns its places and is one of the writes
abbrev pub track_acted : Action → Track → Track
track_acted w k = record { owned = own w k.owned; seen = k.seen; written = note w k.written }

-- what is known at the end of a run from a memory, from what is known at its beginning
abbrev pub track_on : {A : Type 0} → Tree A → Memory → Track → Track
track_on (ends a) M k = k
track_on (looks l f) M k = track_on (f (value_at M l)) M (saw l k)
track_on (acts w t) M k = track_on t (perform w M) (track_acted w k)
track_on (asks c f) M k = track_on (f (shape_of M c)) M k

-- the first restore of a save that is none of the track's
abbrev pub outer_on : {A : Type 0} → Tree A → Memory → Track → Option SaveName
outer_on (ends a) M k = None
outer_on (looks l f) M k = outer_on (f (value_at M l)) M (saw l k)
outer_on (acts (restore s) t) M k = cond (has_save s k.owned.saves) (outer_on t (perform (restore s) M) (track_acted (restore s) k)) (Some s)
outer_on (acts w t) M k = outer_on t (perform w M) (track_acted w k)
outer_on (asks c f) M k = outer_on (f (shape_of M c)) M k

-- what is known of a run that has done nothing
abbrev pub nothing_tracked : Track
nothing_tracked = record { owned = nothing_owned; seen = []; written = [] }

-- the track of a run tells what its trail tells
pub record IsTracked {A : Type 0} (t : Tree A) (M : Memory) : Type 0 where
  pub seen : (track_on t M nothing_tracked).seen ≡ looked (trail t M)
  pub written : (track_on t M nothing_tracked).written ≡ writes (trail t M)
  pub outer : outer_on t M nothing_tracked ≡ outer (trail t M)

-- of every run, from every memory
abbrev pub TrackLaw : Type 0 → Type 0
TrackLaw A = (t : Tree A) (M : Memory) → IsTracked t M
