-- The journal: for each open save, what the places that were changed since held then.
use Rattle.std.specs.Prelude.{◌≡◌, Bool, true, ◌&&◌, not, List, [], ◌∷◌, reverse}
use Rattle.std.specs.BTreeMap.{BTreeMap, insert_entry}
use Rattle.std.specs.FinMap.{retain_keys}
use Rattle.std.specs.declared.cmp.Ordering.{Ordering}
use Rattle.ps_objects.specs.contracts.place.LocOrd.TheImpl as loc_order
use Rattle.ps_objects.specs.declared.cell.Cell.{Cell}
use Rattle.ps_objects.specs.declared.cell.SaveName.{SaveName}
use Rattle.ps_objects.specs.declared.place.Loc.{Loc}
use Rattle.ps_objects.specs.declared.place.Value.{Value}
use Rattle.ps_memory.specs.Memory.{newer, Content, CellMap, spot_of, is_kind}
use Rattle.ps_memory.specs.Frame.{later}
use Rattle.vm_content.specs.Content.{put_at}
use Rattle.vm_content.specs.Maps.{cells_of}

-- the order of places
abbrev pub loc_cmp : Loc → Loc → Ordering
loc_cmp = loc_order.ghosts.cmp

-- a place, and what it held
abbrev pub Note : Type 0
Note = Loc × Value

-- an open save and its notes, each place once
abbrev pub Saved : Type 0
Saved = SaveName × List Note

-- a save with a note more
abbrev pub with_note : Loc → Value → Saved → Saved
with_note l v s = (s.0, insert_entry loc_cmp s.1 l v)

-- the cells with what was noted put back
abbrev pub cells_reverted : List Note → CellMap → CellMap
cells_reverted [] m = m
cells_reverted (e ∷ notes) m = cells_reverted notes (put_at e.0 e.1 m)

-- the cells as they were at a save: those that are newer go, and what was noted comes back
abbrev pub as_saved : Saved → CellMap → CellMap
as_saved s m = cells_reverted s.1 (retain_keys m (λ c. not (newer c s.0)))

-- What a journal means: the copies of the local part that the open saves keep, the newest first. Each is the next newer one, or
-- the cells as they are now, with its own notes put back.
abbrev pub copies : List Saved → CellMap → List (SaveName × CellMap)
copies [] m = []
copies (s ∷ saves) m = (s.0, as_saved s m) ∷ copies saves (as_saved s m)

-- each noted value is of its place's kind
abbrev pub all_of_kind : List Note → Bool
all_of_kind [] = true
all_of_kind (e ∷ notes) = is_kind (spot_of e.0) e.1 && all_of_kind notes

-- the name is later than those of all saves
abbrev pub is_latest : SaveName → List Saved → Bool
is_latest s [] = true
is_latest s (r ∷ saves) = later s r.0 && is_latest s saves

-- the newer a save, the later its name
abbrev pub is_rising : List Saved → Bool
is_rising [] = true
is_rising (s ∷ saves) = is_latest s.0 saves && is_rising saves

-- ---- what is left as it was: old and new are the same saves before and after

-- the copy of a save, over the same cells
abbrev pub SameCopy : Saved → Saved → BTreeMap Cell Content → Type 0
SameCopy old new m = as_saved new (cells_of m) ≡ as_saved old (cells_of m)

-- the copy of a save, whatever is put at a place
abbrev pub Noted : Saved → Saved → Loc → BTreeMap Cell Content → Type 0
Noted old new l m = (v : Value) → as_saved new (put_at l v (cells_of m)) ≡ as_saved old (cells_of m)

-- the copies of saves that stand the oldest first, over the same cells
abbrev pub SameCopies : List Saved → List Saved → BTreeMap Cell Content → Type 0
SameCopies old new m = copies (reverse new) (cells_of m) ≡ copies (reverse old) (cells_of m)

-- the copies of these, whatever is put at a place
abbrev pub AllNoted : List Saved → List Saved → Loc → BTreeMap Cell Content → Type 0
AllNoted old new l m = (v : Value) → copies (reverse new) (put_at l v (cells_of m)) ≡ copies (reverse old) (cells_of m)

-- all notes are put back
abbrev pub Reverts : List Note → CellMap → CellMap → Type 0
Reverts notes old new = new ≡ cells_reverted notes old
