-- What the journal means stays while it is kept.
use Rattle.std.proofs.Common.{◌≡◌, ℕ, zero, suc, Bool, true, false, cond, ◌&&◌, not, List, [], ◌∷◌, Option, Some, None, refl, sym, ap, ◌∙◌, slice_get, slice_set, is_some, ◌<◌, nat_lt, length, true≢false, arith}
use Rattle.std.specs.declared.cmp.Ordering.{Ordering}
use Rattle.std.specs.declared.cmp.Ordering.TheVariants.{Less, Equal, Greater}
use Rattle.std.specs.Ordering.{is_eq, eq_by_cmp, match_ordering}
use Rattle.std.specs.Cmp.{first_so, second_so}
use Rattle.std.specs.Map.{lookup}
use Rattle.std.specs.BTreeMap.{is_at, insert_entry}
use Rattle.std.specs.FinMap.{FinMap, get, insert, remove, from_entries, get-insert, get-remove, same_map}
use Rattle.ps_objects.specs.declared.cell.Cell.{Cell}
use Rattle.ps_objects.specs.declared.cell.SaveName.{SaveName}
use Rattle.ps_objects.specs.declared.key.Key.{Key}
use Rattle.ps_objects.specs.declared.object.Object.{Object}
use Rattle.ps_objects.specs.declared.place.Loc.{Loc}
use Rattle.ps_objects.specs.declared.place.Loc.TheVariants as loc
use Rattle.ps_objects.specs.declared.place.Value.{Value}
use Rattle.ps_memory.specs.Order.{cell_cmp, key_cmp}
use Rattle.ps_memory.specs.Memory.{newer, Content, dictionary, items, characters, CellMap, Slot, entry, access, item, whole, Spot, held, byte, rand, paper, spot_of, value_found, object_found, in_content, is_slot, is_kind, put_entry, put_item, put_content, put_cell}
use Rattle.ps_memory.specs.Ownership.{same_cell, same_slot, same_spot}
use Rattle.ps_memory.proofs.Order.{cells_total, keys_total, keys_antisymmetric, cell_is, cell_itself, key_is}
use Rattle.ps_memory.proofs.Places.{mapped, put_at, kept_at}
use Rattle.ps_memory.proofs.Stored.{no_whole}
use Rattle.ps_memory.proofs.Replace.{put_swap, put_over, content_swap, content_over}
use Rattle.ps_memory.proofs.Keeping.{same_maps, keep, keep_change, keep_put}
use Rattle.vm_content.specs.Content.{slot_in, value_in, put_held}
use Rattle.vm_content.proofs.Keyed.{get_entries}
use Rattle.vm_journal.specs.Journal.{loc_cmp, Note, Saved, cells_reverted, as_saved, all_of_kind}
use Rattle.vm_journal.proofs.Places.{loc_is, loc_itself, spots_apart}

-- ---- one place

two_slots : (c d : Cell) (s t : Slot) (v w : Value) → (same_cell d c && same_slot s t) ≡ false → same_cell c d ≡ true → (x : Content) → put_content s v (put_content t w x) ≡ put_content t w (put_content s v x)
two_slots c d s t v w h e x = content_swap s t v w x (sym (ap (λ b. b && same_slot s t) (ap (λ q. same_cell d q) (cell_is c d e) ∙ cell_itself d)) ∙ h)

pub held_swap : (p q : Spot) (v w : Value) (m : CellMap) → same_spot p q ≡ false → put_held p v (put_held q w m) ≡ put_held q w (put_held p v m)
held_swap (held c s) (held d t) v w m h = put_swap c d (put_content s v) (put_content t w) m (two_slots c d s t v w h)
held_swap (held c s) (byte d j) v w m h = refl
held_swap (held c s) rand v w m h = refl
held_swap (held c s) paper v w m h = refl
held_swap (byte c i) q v w m h = refl
held_swap rand q v w m h = refl
held_swap paper q v w m h = refl

pub held_over : (p : Spot) (v w : Value) (m : CellMap) → is_kind p v ≡ true → put_held p v (put_held p w m) ≡ put_held p v m
held_over (held c t) v w m h = put_over c (put_content t v) (put_content t w) m (λ x. content_over c t v w x h)
held_over (byte c i) v w m h = refl
held_over rand v w m h = refl
held_over paper v w m h = refl

-- ---- notes

not_there : {X Y : Type 0} (x : X) → Some x ≡ None → Y
not_there x e = cc

-- a place that is noted may be changed
pub noted_put : (l : Loc) (v : Value) (notes : List Note) (m : CellMap) (w : Value) → all_of_kind notes ≡ true → lookup (is_at (loc_cmp l)) notes ≡ Some w → cells_reverted notes (put_held (spot_of l) v m) ≡ cells_reverted notes m
noted_put l v [] m w k h = cc
noted_put l v (e ∷ notes) m w k h = go (is_at (loc_cmp l) e.0) refl (noted_put l v notes (put_held (spot_of e.0) e.1 m) w (second_so _ _ k))
  where
    go : (b : Bool) → is_at (loc_cmp l) e.0 ≡ b
        → (lookup (is_at (loc_cmp l)) notes ≡ Some w → cells_reverted notes (put_held (spot_of l) v (put_held (spot_of e.0) e.1 m)) ≡ cells_reverted notes (put_held (spot_of e.0) e.1 m))
        → cells_reverted notes (put_held (spot_of e.0) e.1 (put_held (spot_of l) v m)) ≡ cells_reverted notes (put_held (spot_of e.0) e.1 m)
    go true i rest = ap (cells_reverted notes) (ap (λ q. put_held (spot_of e.0) e.1 (put_held (spot_of q) v m)) (loc_is l e.0 i) ∙ held_over (spot_of e.0) e.1 v m (first_so _ _ k))
    go false i rest = ap (cells_reverted notes) (held_swap (spot_of e.0) (spot_of l) e.1 v m (spots_apart l e.0 i)) ∙ rest (sym (ap (λ b. cond b (Some e.1) (lookup (is_at (loc_cmp l)) notes)) i) ∙ h)

-- a note at a place that has none is put back first or later alike
pub noted_anew : (l : Loc) (v : Value) (notes : List Note) (m : CellMap) → lookup (is_at (loc_cmp l)) notes ≡ None → cells_reverted (insert_entry loc_cmp notes l v) m ≡ cells_reverted notes (put_held (spot_of l) v m)
noted_anew l v [] m h = refl
noted_anew l v (e ∷ notes) m h = go (loc_cmp l e.0) refl (noted_anew l v notes (put_held (spot_of e.0) e.1 m))
  where
    apart : is_at (loc_cmp l) e.0 ≡ false → lookup (is_at (loc_cmp l)) notes ≡ None
    apart i = sym (ap (λ b. cond b (Some e.1) (lookup (is_at (loc_cmp l)) notes)) i) ∙ h

    go : (r : Ordering) → loc_cmp l e.0 ≡ r
        → (lookup (is_at (loc_cmp l)) notes ≡ None → cells_reverted (insert_entry loc_cmp notes l v) (put_held (spot_of e.0) e.1 m) ≡ cells_reverted notes (put_held (spot_of l) v (put_held (spot_of e.0) e.1 m)))
        → cells_reverted (match_ordering r ((l, v) ∷ e ∷ notes) ((e.0, v) ∷ notes) (e ∷ insert_entry loc_cmp notes l v)) m ≡ cells_reverted notes (put_held (spot_of e.0) e.1 (put_held (spot_of l) v m))
    go Less i rest = refl
    go Equal i rest = not_there e.1 (sym (ap (λ b. cond b (Some e.1) (lookup (is_at (loc_cmp l)) notes)) (ap is_eq i)) ∙ h)
    go Greater i rest = rest (apart (ap is_eq i)) ∙ ap (cells_reverted notes) (sym (held_swap (spot_of e.0) (spot_of l) e.1 v m (spots_apart l e.0 (ap is_eq i))))

-- the notes with one more are of their kinds, and have it
pub kinds_kept : (l : Loc) (v : Value) (notes : List Note) → all_of_kind notes ≡ true → is_kind (spot_of l) v ≡ true → is_some (lookup (is_at (loc_cmp l)) notes) ≡ false → all_of_kind (insert_entry loc_cmp notes l v) ≡ true
kinds_kept l v [] k h n = ap (λ b. b && true) h
kinds_kept l v (e ∷ notes) k h n = go (loc_cmp l e.0) refl (kinds_kept l v notes (second_so _ _ k) h)
  where
    go : (r : Ordering) → loc_cmp l e.0 ≡ r → (is_some (lookup (is_at (loc_cmp l)) notes) ≡ false → all_of_kind (insert_entry loc_cmp notes l v) ≡ true)
        → all_of_kind (match_ordering r ((l, v) ∷ e ∷ notes) ((e.0, v) ∷ notes) (e ∷ insert_entry loc_cmp notes l v)) ≡ true
    go Less i rest = ap (λ b. b && (is_kind (spot_of e.0) e.1 && all_of_kind notes)) h ∙ k
    go Equal i rest = absurd (true≢false (sym (ap (λ b. is_some (cond b (Some e.1) (lookup (is_at (loc_cmp l)) notes))) (ap is_eq i)) ∙ n))
    go Greater i rest = ap (λ b. b && all_of_kind (insert_entry loc_cmp notes l v)) (first_so _ _ k) ∙ rest (sym (ap (λ b. is_some (cond b (Some e.1) (lookup (is_at (loc_cmp l)) notes))) (ap is_eq i)) ∙ n)

pub has_note : (l : Loc) (v : Value) (notes : List Note) → lookup (is_at (loc_cmp l)) (insert_entry loc_cmp notes l v) ≡ Some v
has_note l v [] = ap (λ b. cond b (Some v) None) (loc_itself l)
has_note l v (e ∷ notes) = go (loc_cmp l e.0) refl (has_note l v notes)
  where
    go : (r : Ordering) → loc_cmp l e.0 ≡ r → lookup (is_at (loc_cmp l)) (insert_entry loc_cmp notes l v) ≡ Some v
        → lookup (is_at (loc_cmp l)) (match_ordering r ((l, v) ∷ e ∷ notes) ((e.0, v) ∷ notes) (e ∷ insert_entry loc_cmp notes l v)) ≡ Some v
    go Less i rest = ap (λ b. cond b (Some v) (lookup (is_at (loc_cmp l)) (e ∷ notes))) (loc_itself l)
    go Equal i rest = ap (λ b. cond b (Some v) (lookup (is_at (loc_cmp l)) notes)) (ap is_eq i)
    go Greater i rest = ap (λ b. cond b (Some e.1) (lookup (is_at (loc_cmp l)) (insert_entry loc_cmp notes l v))) (ap is_eq i) ∙ rest

-- ---- a value put where it is

entry_same : (k : Key) (o : Option Object) (es : FinMap key_cmp Object) → get es k ≡ o → put_entry k (value_found (object_found o)) es ≡ es
entry_same k None es e = same_map keys_total keys_antisymmetric (remove es k) es (λ q. get-remove keys_total es k q ∙ go q (eq_by_cmp key_cmp q k) refl)
  where
    go : (q : Key) (b : Bool) → eq_by_cmp key_cmp q k ≡ b → cond b None (get es q) ≡ get es q
    go q true i = sym (ap (get es) (key_is q k i) ∙ e)
    go q false i = refl
entry_same k (Some x) es e = same_map keys_total keys_antisymmetric (insert es k x) es (λ q. get-insert keys_total es k x q ∙ go q (eq_by_cmp key_cmp q k) refl)
  where
    go : (q : Key) (b : Bool) → eq_by_cmp key_cmp q k ≡ b → cond b (Some x) (get es q) ≡ get es q
    go q true i = sym (ap (get es) (key_is q k i) ∙ e)
    go q false i = refl

set_same : {X : Type 0} (xs : List X) (i : ℕ) (x : X) → slice_get xs i ≡ Some x → slice_set xs i x ≡ xs
set_same [] i x e = refl
set_same (y ∷ ys) zero x e = cc
set_same (y ∷ ys) (suc i) x e = ap (λ zs. y ∷ zs) (set_same ys i x e)

item_same : (i : ℕ) (o : Option Object) (xs : List Object) → slice_get xs i ≡ o → put_item i (value_found (object_found o)) xs ≡ xs
item_same i None xs e = refl
item_same i (Some x) xs e = set_same xs i x e

pub content_same : (t : Slot) (x : Content) → put_content t (value_found (in_content (Some x) t)) x ≡ x
content_same (entry k) (dictionary n a es) = ap (dictionary n a) (entry_same k (get es k) es refl)
content_same access (dictionary n a es) = refl
content_same (item i) (dictionary n a es) = refl
content_same whole (dictionary n a es) = refl
content_same (entry k) (items xs) = refl
content_same access (items xs) = refl
content_same (item i) (items xs) = ap items (item_same i (slice_get xs i) xs refl)
content_same whole (items xs) = refl
content_same (entry k) (characters n) = refl
content_same access (characters n) = refl
content_same (item i) (characters n) = refl
content_same whole (characters n) = refl

pub cell_same : (c : Cell) (f : Content → Content) (m : CellMap) (x : Content) → get m c ≡ Some x → f x ≡ x → put_cell c f m ≡ m
cell_same c f m x e h = same_maps (put_cell c f m) m (λ q. put_at c q f m ∙ go q (same_cell q c) refl)
  where
    go : (q : Cell) (b : Bool) → same_cell q c ≡ b → cond b (mapped f (get m q)) (get m q) ≡ get m q
    go q true i = let here = ap (get m) (cell_is q c i) ∙ e in ap (mapped f) here ∙ ap Some h ∙ sym here
    go q false i = refl

-- ---- a save

-- a cell that is not newer than the save is there as it was
old_cell : (s : SaveName) (c : Cell) (m : CellMap) → newer c s ≡ false → get (keep s m) c ≡ get m c
old_cell s c m h = kept_at s c m ∙ ap (λ b. cond (not b) (get m c) None) h

pub newer_put : (s : Saved) (c : Cell) (t : Slot) (v : Value) (m : CellMap) → newer c s.0 ≡ true → as_saved s (put_held (held c t) v m) ≡ as_saved s m
newer_put s c t v m h = ap (cells_reverted s.1) (keep_change s.0 c m (put_cell c (put_content t v) m) h (λ d e. put_at c d (put_content t v) m ∙ ap (λ b. cond b (mapped (put_content t v) (get m d)) (get m d)) e))

-- a note of what a place holds changes nothing
pub note_same : (s : SaveName) (notes : List Note) (l : Loc) (c : Cell) (t : Slot) (x : Content) (m : CellMap) → spot_of l ≡ held c t → newer c s ≡ false → get m c ≡ Some x
    → lookup (is_at (loc_cmp l)) notes ≡ None → as_saved (s, insert_entry loc_cmp notes l (value_found (in_content (Some x) t))) m ≡ as_saved (s, notes) m
note_same s notes l c t x m p h e n = noted_anew l (value_found (in_content (Some x) t)) notes (keep s m) n
    ∙ ap (cells_reverted notes) (ap (λ q. put_held q (value_found (in_content (Some x) t)) (keep s m)) p ∙ cell_same c (put_content t (value_found (in_content (Some x) t))) (keep s m) x (old_cell s c m h ∙ e) (content_same t x))

-- and then the place may be changed
pub put_noted : (s : SaveName) (notes : List Note) (l : Loc) (c : Cell) (t : Slot) (w v : Value) (m : CellMap) → spot_of l ≡ held c t → newer c s ≡ false → all_of_kind notes ≡ true
    → lookup (is_at (loc_cmp l)) notes ≡ Some w → as_saved (s, notes) (put_held (spot_of l) v m) ≡ as_saved (s, notes) m
put_noted s notes l c t w v m p h k e = ap (cells_reverted notes) (ap (λ q. keep s (put_held q v m)) p ∙ keep_put s c (put_content t v) m ∙ ap (λ q. put_held q v (keep s m)) (sym p))
    ∙ noted_put l v notes (keep s m) w k e

-- ---- the calls of a save

some_is : {X : Type 0} (o : Option X) → is_some o ≡ true → (x : X) × (o ≡ Some x)
some_is None e = cc
some_is (Some x) e = (x, refl)

none_is : {X : Type 0} (o : Option X) → is_some o ≡ false → o ≡ None
none_is None e = refl
none_is (Some x) e = cc

is_told : (l : Loc) (c : Cell) (x : Content) → spot_of l ≡ held c (slot_in l) → is_slot (Some x) (slot_in l) ≡ true → value_in x l ≡ value_found (in_content (Some x) (slot_in l))
is_told (loc.Entry d k) c x p h = refl
is_told (loc.Access d) c x p h = refl
is_told (loc.Item a i) c x p h = refl
is_told (loc.Keys d) c (dictionary n a es) p h = cc
is_told (loc.Keys d) c (items xs) p h = cc
is_told (loc.Keys d) c (characters n) p h = cc
is_told (loc.Byte a i) c x p h = cc
is_told loc.Rand c x p h = cc
is_told loc.Paper c x p h = cc

below : (i n : ℕ) → nat_lt i n ≡ true → i < n
below i n h = grind arith

item_kind : (c : Cell) (j : ℕ) (xs : List Object) (i : ℕ) → i < length xs → is_kind (held c (item j)) (value_found (object_found (slice_get xs i))) ≡ true
item_kind c j [] i h = absurd (omega arith)
item_kind c j (x ∷ xs) zero h = refl
item_kind c j (x ∷ xs) (suc i) h = item_kind c j xs i (omega (arith, h))

found_kind : (c : Cell) (t : Slot) (x : Content) → is_slot (Some x) t ≡ true → is_kind (held c t) (value_found (in_content (Some x) t)) ≡ true
found_kind c (entry k) (dictionary n a es) h = entry_kind (get es k)
  where
    entry_kind : (o : Option Object) → is_kind (held c (entry k)) (value_found (object_found o)) ≡ true
    entry_kind None = refl
    entry_kind (Some x) = refl
found_kind c access (dictionary n a es) h = refl
found_kind c (item i) (items xs) h = item_kind c i xs i (below i (length xs) h)
found_kind c whole x h = absurd (true≢false (sym h ∙ no_whole (Some x)))
found_kind c _ _ h = cc

-- the cell of a place that is there stands
pub stands_there : (es : List (Cell × Content)) (c : Cell) (t : Slot) → is_slot (get (from_entries {R = cell_cmp} es) c) t ≡ true → lookup (is_at (cell_cmp c)) es ≡ None → true ≡ false
stands_there es c t h e = sym h ∙ ap (λ o. is_slot o t) (get_entries cells_total es c ∙ e)

pub newer_needs_none : (s : SaveName) (notes : List Note) (l : Loc) (c : Cell) (m : CellMap) → spot_of l ≡ held c (slot_in l) → newer c s ≡ true → (v : Value) → as_saved (s, notes) (put_held (spot_of l) v m) ≡ as_saved (s, notes) m
newer_needs_none s notes l c m p h v = ap (λ q. as_saved (s, notes) (put_held q v m)) p ∙ newer_put (s, notes) c (slot_in l) v m h

pub noted_already : (s : SaveName) (notes : List Note) (l : Loc) (c : Cell) (m : CellMap) → spot_of l ≡ held c (slot_in l) → newer c s ≡ false → all_of_kind notes ≡ true
    → is_some (lookup (is_at (loc_cmp l)) notes) ≡ true → (v : Value) → as_saved (s, notes) (put_held (spot_of l) v m) ≡ as_saved (s, notes) m
noted_already s notes l c m p h k e v = let w = some_is (lookup (is_at (loc_cmp l)) notes) e in put_noted s notes l c (slot_in l) w.0 v m p h k w.1

pub kind_of_old : (es : List (Cell × Content)) (l : Loc) (c : Cell) (x : Content) → spot_of l ≡ held c (slot_in l) → is_slot (get (from_entries {R = cell_cmp} es) c) (slot_in l) ≡ true
    → lookup (is_at (cell_cmp c)) es ≡ Some x → is_kind (spot_of l) (value_in x l) ≡ true
kind_of_old es l c x p h e =
    let there = sym (ap (λ o. is_slot o (slot_in l)) (get_entries cells_total es c ∙ e)) ∙ h in
    ap (λ q. is_kind q (value_in x l)) p ∙ ap (is_kind (held c (slot_in l))) (is_told l c x p there) ∙ found_kind c (slot_in l) x there

pub noted_now : (s : SaveName) (notes : List Note) (es : List (Cell × Content)) (l : Loc) (c : Cell) (x : Content) → spot_of l ≡ held c (slot_in l) → is_slot (get (from_entries {R = cell_cmp} es) c) (slot_in l) ≡ true
    → newer c s ≡ false → lookup (is_at (cell_cmp c)) es ≡ Some x → is_some (lookup (is_at (loc_cmp l)) notes) ≡ false
    → as_saved (s, insert_entry loc_cmp notes l (value_in x l)) (from_entries es) ≡ as_saved (s, notes) (from_entries es)
noted_now s notes es l c x p h o e n =
    let here = get_entries cells_total es c ∙ e in
    let there = sym (ap (λ o. is_slot o (slot_in l)) here) ∙ h in
    ap (λ v. as_saved (s, insert_entry loc_cmp notes l v) (from_entries es)) (is_told l c x p there)
    ∙ note_same s notes l c (slot_in l) x (from_entries es) p o here (none_is (lookup (is_at (loc_cmp l)) notes) n)

pub noted_and_put : (s : SaveName) (notes : List Note) (es : List (Cell × Content)) (l : Loc) (c : Cell) (x : Content) → spot_of l ≡ held c (slot_in l) → is_slot (get (from_entries {R = cell_cmp} es) c) (slot_in l) ≡ true
    → newer c s ≡ false → lookup (is_at (cell_cmp c)) es ≡ Some x → is_some (lookup (is_at (loc_cmp l)) notes) ≡ false → all_of_kind notes ≡ true
    → (v : Value) → as_saved (s, insert_entry loc_cmp notes l (value_in x l)) (put_held (spot_of l) v (from_entries es)) ≡ as_saved (s, notes) (from_entries es)
noted_and_put s notes es l c x p h o e n k v =
    let anew = none_is (lookup (is_at (loc_cmp l)) notes) n in
    put_noted s (insert_entry loc_cmp notes l (value_in x l)) l c (slot_in l) (value_in x l) v (from_entries es) p o (kinds_kept l (value_in x l) notes k (kind_of_old es l c x p h e) n) (has_note l (value_in x l) notes)
    ∙ noted_now s notes es l c x p h o e n
