-- A store reaches its place, and changes which places are there nowhere.
use Rattle.std.proofs.Common.{◌≡◌, ℕ, zero, suc, ◌<◌, Bool, true, false, cond, ◌&&◌, List, [], ◌∷◌, Option, Some, None, refl, sym, ap, ◌∙◌, nat_lt, slice_get, slice_set, length, true≢false, arith}
use Rattle.std.specs.FinMap.{get, get-insert, get-remove}
use Rattle.ps_objects.specs.declared.cell.Cell.{Cell}
use Rattle.ps_objects.specs.declared.place.Value.{Value}
use Rattle.ps_objects.specs.declared.place.Value.TheVariants as value
use Rattle.ps_memory.specs.Memory.{Content, dictionary, items, characters, Memory, Slot, entry, access, item, whole, Spot, held, byte, rand, paper, is, object_found, byte_found, in_content, in_string, part, at, is_slot, is_byte, is_place, is_kind, put_content, put_byte, put_cell, do_store}
use Rattle.ps_memory.specs.Ownership.{same_cell, same_spot}
use Rattle.ps_memory.proofs.Order.{keys_total, key_itself, cell_itself}
use Rattle.ps_memory.proofs.Places.{mapped, put_at, part_here}

below : (i n : ℕ) → nat_lt i n ≡ true → i < n
below i n h = grind arith

pub item_here : {X : Type 0} (xs : List X) (i : ℕ) (x : X) → i < length xs → slice_get (slice_set xs i x) i ≡ Some x
item_here [] i x h = absurd (omega arith)
item_here (y ∷ ys) zero x h = refl
item_here (y ∷ ys) (suc i) x h = item_here ys i x (omega (arith, h))

pub held_store : (c : Cell) (t : Slot) (v : Value) (M : Memory) → get (part (do_store (held c t) v M) c) c ≡ mapped (put_content t v) (get (part M c) c)
held_store c t v M = ap (λ m. get m c) (part_here c (put_cell c (put_content t v)) M) ∙ put_at c c (put_content t v) (part M c) ∙ ap (λ b. cond b (mapped (put_content t v) (get (part M c) c)) (get (part M c) c)) (cell_itself c)

slot_stored : (c : Cell) (x : Option Content) (t : Slot) (v : Value) → is_slot x t ≡ true → is_kind (held c t) v ≡ true → in_content (mapped (put_content t v) x) t ≡ is v
slot_stored c (Some (dictionary n a es)) (entry k) value.Absent p q = ap object_found (get-remove keys_total es k k ∙ ap (λ b. cond b None (get es k)) (key_itself k))
slot_stored c (Some (dictionary n a es)) (entry k) (value.Object x) p q = ap object_found (get-insert keys_total es k x k ∙ ap (λ b. cond b (Some x) (get es k)) (key_itself k))
slot_stored c (Some (dictionary n a es)) access (value.Access b) p q = refl
slot_stored c (Some (items xs)) (item i) (value.Object x) p q = ap object_found (item_here xs i x (below i (length xs) p))
slot_stored c _ _ _ p q = cc

byte_stored : (c : Cell) (o : Option (List ℕ)) (i : ℕ) (v : Value) → is_byte o i ≡ true → is_kind (byte c i) v ≡ true → in_string (mapped (put_byte i v) o) i ≡ is v
byte_stored c (Some bs) i (value.Byte n) p q = ap byte_found (item_here bs i n (below i (length bs) p))
byte_stored c _ i _ p q = cc

pub stored : (p : Spot) (v : Value) (M : Memory) → is_place M p ≡ true → is_kind p v ≡ true → at (do_store p v M) p ≡ is v
stored (held c t) v M p q = ap (λ o. in_content o t) (held_store c t v M) ∙ slot_stored c (get (part M c) c) t v p q
stored (byte c i) v M p q =
    ap (λ o. in_string o i) (put_at c c (put_byte i v) M.strings ∙ ap (λ b. cond b (mapped (put_byte i v) (get M.strings c)) (get M.strings c)) (cell_itself c))
    ∙ byte_stored c (get M.strings c) i v p q
stored rand (value.Rand n) M p q = refl
stored paper (value.Paper x) M p q = refl
stored rand _ M p q = cc
stored paper _ M p q = cc

pub no_whole : (x : Option Content) → is_slot x whole ≡ false
no_whole None = refl
no_whole (Some (dictionary n a es)) = refl
no_whole (Some (items xs)) = refl
no_whole (Some (characters n)) = refl

and_false : (a : Bool) → (a && false) ≡ false
and_false true = refl
and_false false = refl

-- no store is at a cell's shape
pub no_shape : (p : Spot) (M : Memory) (c : Cell) → is_place M p ≡ true → same_spot p (held c whole) ≡ false
no_shape (held d (entry k)) M c e = and_false (same_cell c d)
no_shape (held d access) M c e = and_false (same_cell c d)
no_shape (held d (item i)) M c e = and_false (same_cell c d)
no_shape (held d whole) M c e = absurd (true≢false (sym e ∙ no_whole (get (part M d) d)))
no_shape (byte d i) M c e = refl
no_shape rand M c e = refl
no_shape paper M c e = refl
