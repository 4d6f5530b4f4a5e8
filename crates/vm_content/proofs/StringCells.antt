-- What a write leaves of which cells are strings'.
use Rattle.std.proofs.Common.{◌≡◌, Bool, true, false, cond, Option, Some, None, refl, ap, ◌∙◌}
use Rattle.std.specs.FinMap.{get}
use Rattle.ps_objects.specs.declared.cell.Cell.{Cell}
use Rattle.ps_objects.specs.declared.place.Loc.TheVariants as loc
use Rattle.ps_objects.specs.declared.place.Value.{Value}
use Rattle.ps_objects.specs.declared.place.Value.TheVariants as value
use Rattle.ps_memory.specs.Memory.{Content, dictionary, items, characters, CellMap, Slot, entry, access, item, whole, Spot, held, byte, rand, paper, put_content, put_cell}
use Rattle.ps_memory.specs.Holders.{holds_string}
use Rattle.ps_memory.specs.Ownership.{same_cell}
use Rattle.ps_memory.proofs.Places.{mapped, put_at}
use Rattle.vm_content.specs.declared.before.Before.{Before}
use Rattle.vm_content.specs.declared.before.Before.TheVariants.{Same, Place, Entries}
use Rattle.vm_content.specs.Back.{place_undone, content_undone}
use Rattle.vm_content.specs.Content.{slot_in, put_held}

put_keeps : (t : Slot) (v : Value) (x : Content) → holds_string (Some (put_content t v x)) ≡ holds_string (Some x)
put_keeps (entry k) v (dictionary n a es) = refl
put_keeps (entry k) v (items xs) = refl
put_keeps (entry k) v (characters n) = refl
put_keeps access v (dictionary n a es) = refl
put_keeps access v (items xs) = refl
put_keeps access v (characters n) = refl
put_keeps (item i) v (dictionary n a es) = refl
put_keeps (item i) v (items xs) = refl
put_keeps (item i) v (characters n) = refl
put_keeps whole v (dictionary n a es) = refl
put_keeps whole v (items xs) = refl
put_keeps whole v (characters n) = refl

place_keeps : (t : Slot) (v : Value) (x : Content) → holds_string (Some (place_undone t v x)) ≡ holds_string (Some x)
place_keeps (entry k) v (dictionary n a es) = refl
place_keeps (entry k) v (items xs) = refl
place_keeps (entry k) v (characters n) = refl
place_keeps access v x = put_keeps access v x
place_keeps (item i) v x = put_keeps (item i) v x
place_keeps whole v x = put_keeps whole v x

undone_keeps : (b : Before) (x : Content) → holds_string (Some (content_undone b x)) ≡ holds_string (Some x)
undone_keeps Same x = refl
undone_keeps (Place l v) x = place_keeps (slot_in l) v x
undone_keeps (Entries es) (dictionary n a old) = refl
undone_keeps (Entries es) (items xs) = refl
undone_keeps (Entries es) (characters n) = refl

kinds_by : (c q : Cell) (f : Content → Content) (m : CellMap) → ((x : Content) → holds_string (Some (f x)) ≡ holds_string (Some x)) → holds_string (get (put_cell c f m) q) ≡ holds_string (get m q)
kinds_by c q f m h = ap holds_string (put_at c q f m) ∙ go (same_cell q c) (get m q)
  where
    go : (b : Bool) (o : Option Content) → holds_string (cond b (mapped f o) o) ≡ holds_string o
    go true None = refl
    go true (Some x) = h x
    go false o = refl

pub kinds_put : (c q : Cell) (t : Slot) (v : Value) (m : CellMap) → holds_string (get (put_cell c (put_content t v) m) q) ≡ holds_string (get m q)
kinds_put c q t v m = kinds_by c q (put_content t v) m (put_keeps t v)

pub kinds_undone : (c q : Cell) (b : Before) (m : CellMap) → holds_string (get (put_cell c (content_undone b) m) q) ≡ holds_string (get m q)
kinds_undone c q b m = kinds_by c q (content_undone b) m (undone_keeps b)

pub kinds_held : (p : Spot) (q : Cell) (v : Value) (m : CellMap) → holds_string (get (put_held p v m) q) ≡ holds_string (get m q)
kinds_held (held c t) q v m = kinds_put c q t v m
kinds_held (byte c i) q v m = refl
kinds_held rand q v m = refl
kinds_held paper q v m = refl
