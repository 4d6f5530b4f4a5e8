-- Each action keeps a sound memory sound.
use Rattle.std.proofs.Common.{◌≡◌, ◌≢◌, ℕ, zero, suc, ◌<◌, ◌≤◌, Bool, true, false, cond, not, List, [], ◌∷◌, Option, Some, None, refl, sym, ap, ◌∙◌, subst, true≢false, arith, length, nat_lt, slice_get, slice_set, replicate}
use Rattle.std.specs.List.{AllByRecursion}
use Rattle.std.specs.FinMap.{get, insert, get-empty}
use Rattle.ps_shapes.specs.Sheet.{Sheet}
use Rattle.ps_objects.specs.declared.cell.Cell.{Cell}
use Rattle.ps_objects.specs.declared.cell.SaveName.{SaveName}
use Rattle.ps_objects.specs.declared.key.Key.{Key}
use Rattle.ps_objects.specs.declared.place.Loc.{Loc}
use Rattle.ps_objects.specs.declared.place.Loc.TheVariants as loc
use Rattle.ps_objects.specs.declared.place.Value.{Value}
use Rattle.ps_objects.specs.declared.place.Value.TheVariants as value
use Rattle.ps_objects.specs.declared.place.Shape.{Shape}
use Rattle.ps_objects.specs.declared.place.Shape.TheVariants as shape
use Rattle.ps_memory.specs.Order.{key_cmp}
use Rattle.ps_memory.specs.Memory.{is_global, newer, same_save, Content, dictionary, items, characters, CellMap, Memory, Slot, entry, access, item, whole, Spot, held, byte, rand, paper, spot_of, Page, here, is, object_found, in_content, at, part, shape_in, shape_at, is_slot, is_byte, is_place, is_kind, save, restore, null_object, content_of, new_bytes, put_content, put_byte, put_cell, do_store, do_fresh, copy_named, older_than, do_restore, perform}
use Rattle.ps_memory.specs.Ownership.{same_cell, same_spot}
use Rattle.ps_memory.specs.Frame.{later}
use Rattle.ps_memory.proofs.Order.{cell_is}
use Rattle.ps_memory.proofs.Places.{spot_is, mapped, put_at, part_strings, part_rand, part_page, store_other, length_set, held_fresh, bytes_new, string_fresh, string_fresh_other, fresh_other, restored, kept_at as string_dropped}
use Rattle.ps_memory.proofs.Stored.{stored, no_shape}
use Rattle.ps_memory.proofs.Frame.{save_is, kept_store, kept_fresh}
use Rattle.ps_meaning.specs.Fits.{Shapes, FitsFound, FitsSpot, SharedFound, SharedSpot, IsLoc}
use Rattle.ps_meaning.specs.Sound.{Size, size_of, World, named_at_start, start_cells, StringFits, without_newer, SoundCopy, SoundKept, SoundMemory, with_cell, made, new_size, resized, saved_at, has_name, names_before, restored_to, IsNew, IsNewSave}
use Rattle.ps_meaning.proofs.Fits.{apart, found_stays, newer_than_older, start_is_old, global_is_old, found_old}

pub all_map : {X : Type 0} (P Q : X → Type 0) → ((x : X) → P x → Q x) → (xs : List X) → AllByRecursion P xs → AllByRecursion Q xs
all_map P Q f [] h = tt
all_map P Q f (x ∷ xs) h = (f x h.0, all_map P Q f xs h.1)

all_set : {X : Type 0} (P : X → Type 0) (xs : List X) (i : ℕ) (x : X) → P x → AllByRecursion P xs → AllByRecursion P (slice_set xs i x)
all_set P [] i x p h = tt
all_set P (y ∷ ys) zero x p h = (p, h.1)
all_set P (y ∷ ys) (suc i) x p h = (h.0, all_set P ys i x p h.1)

less : (i n : ℕ) → nat_lt i n ≡ true → i < n
less i n h = grind arith

less_true : (i n : ℕ) → i < n → nat_lt i n ≡ true
less_true i n h = grind arith

-- ---- what a shape says of a content

whole_takes_none : (c : Cell) (v : Value) → is_kind (held c whole) v ≡ false
whole_takes_none c value.Absent = refl
whole_takes_none c (value.Object x) = refl
whole_takes_none c (value.Byte n) = refl
whole_takes_none c (value.Access a) = refl
whole_takes_none c (value.Keys ks) = refl
whole_takes_none c (value.Rand n) = refl
whole_takes_none c (value.Paper p) = refl

dict_entry : (x : Option Content) (n : ℕ) (k : Key) → shape_in (in_content x whole) ≡ Some (shape.Dict n) → is_slot x (entry k) ≡ true
dict_entry None n k e = cc
dict_entry (Some (dictionary m a es)) n k e = refl
dict_entry (Some (items xs)) n k e = cc
dict_entry (Some (characters m)) n k e = cc

dict_access : (x : Option Content) (n : ℕ) → shape_in (in_content x whole) ≡ Some (shape.Dict n) → is_slot x access ≡ true
dict_access None n e = cc
dict_access (Some (dictionary m a es)) n e = refl
dict_access (Some (items xs)) n e = cc
dict_access (Some (characters m)) n e = cc

array_item : (x : Option Content) (n i : ℕ) → shape_in (in_content x whole) ≡ Some (shape.Array n) → i < n → is_slot x (item i) ≡ true
array_item None n i e h = cc
array_item (Some (dictionary m a es)) n i e h = cc
array_item (Some (items xs)) n i e h = let l : n ≡ length xs = cc in less_true i (length xs) (subst (λ m. i < m) l h)
array_item (Some (characters m)) n i e h = cc

string_byte : (o : Option (List ℕ)) (n i : ℕ) → StringFits (Some (shape.Str n)) o → i < n → is_byte o i ≡ true
string_byte o n i f h = ap (λ o. is_byte o i) f.1 ∙ less_true i (length f.0) (subst (λ m. i < m) (sym f.2) h)

-- ---- a new cell

objects_new : (n : ℕ) → length (replicate n null_object) ≡ n
objects_new zero = refl
objects_new (suc n) = ap suc (objects_new n)

shape_new : (sh : Shape) → shape_in (in_content (Some (content_of sh)) whole) ≡ Some sh
shape_new (shape.Dict n) = refl
shape_new (shape.Array n) = ap (λ m. Some (shape.Array m)) (objects_new n)
shape_new (shape.Str n) = refl

item_new : (J : Shapes) (n i : ℕ) → FitsFound J (item i) (object_found (slice_get (replicate n null_object) i))
item_new J zero i = tt
item_new J (suc n) zero = tt
item_new J (suc n) (suc i) = item_new J n i

found_new : (J : Shapes) (sh : Shape) (t : Slot) → FitsFound J t (in_content (Some (content_of sh)) t)
found_new J (shape.Dict n) (entry k) = subst (λ o. FitsFound J (entry k) (object_found o)) (sym (get-empty key_cmp k)) tt
found_new J (shape.Dict n) access = tt
found_new J (shape.Dict n) (item i) = tt
found_new J (shape.Dict n) whole = tt
found_new J (shape.Array n) (entry k) = tt
found_new J (shape.Array n) access = tt
found_new J (shape.Array n) (item i) = item_new J n i
found_new J (shape.Array n) whole = tt
found_new J (shape.Str n) (entry k) = tt
found_new J (shape.Str n) access = tt
found_new J (shape.Str n) (item i) = tt
found_new J (shape.Str n) whole = tt

item_shared : (g : Cell) (n i : ℕ) → SharedFound g (item i) (object_found (slice_get (replicate n null_object) i))
item_shared g zero i = tt
item_shared g (suc n) zero = refl
item_shared g (suc n) (suc i) = item_shared g n i

shared_new : (g : Cell) (sh : Shape) (t : Slot) → SharedFound g t (in_content (Some (content_of sh)) t)
shared_new g (shape.Dict n) (entry k) = subst (λ o. SharedFound g (entry k) (object_found o)) (sym (get-empty key_cmp k)) tt
shared_new g (shape.Dict n) access = tt
shared_new g (shape.Dict n) (item i) = tt
shared_new g (shape.Dict n) whole = tt
shared_new g (shape.Array n) (entry k) = tt
shared_new g (shape.Array n) access = tt
shared_new g (shape.Array n) (item i) = item_shared g n i
shared_new g (shape.Array n) whole = tt
shared_new g (shape.Str n) (entry k) = tt
shared_new g (shape.Str n) access = tt
shared_new g (shape.Str n) (item i) = tt
shared_new g (shape.Str n) whole = tt

length_new : (n : ℕ) → length {A = ℕ} (replicate n 0) ≡ n
length_new zero = refl
length_new (suc n) = ap suc (length_new n)

small_new : (n : ℕ) → AllByRecursion (λ b. b < 256) (replicate n 0)
small_new zero = tt
small_new (suc n) = (omega arith, small_new n)

string_new : (sh : Shape) → StringFits (Some sh) (bytes_new sh)
string_new (shape.Dict n) = refl
string_new (shape.Array n) = refl
string_new (shape.Str n) = (replicate n 0, refl, length_new n, small_new n)

-- ---- strings under a store

string_put : (w : Option Shape) (o : Option (List ℕ)) (c : Cell) (j : ℕ) (v : Value) → is_kind (byte c j) v ≡ true → StringFits w o → StringFits w (mapped (put_byte j v) o)
string_put (Some (shape.Str n)) o c j (value.Byte m) k h = (slice_set h.0 j m, ap (mapped (put_byte j (value.Byte m))) h.1, length_set h.0 j m ∙ h.2, all_set (λ b. b < 256) h.0 j m (less m 256 k) h.3)
string_put (Some (shape.Str n)) o c j _ k h = absurd (true≢false (sym k))
string_put _ o c j v k h = ap (mapped (put_byte j v)) h

strings_store : (w : Option Shape) (p : Spot) (v : Value) (M : Memory) (c : Cell) → is_kind p v ≡ true → StringFits w (get M.strings c) → StringFits w (get (do_store p v M).strings c)
strings_store w (held d t) v M c k h = subst (λ m. StringFits w (get m c)) (sym (part_strings d (put_cell d (put_content t v)) M)) h
strings_store w (byte d j) v M c k h = subst (StringFits w) (sym (put_at d c (put_byte j v) M.strings)) (go (same_cell c d))
  where
    go : (b : Bool) → StringFits w (cond b (mapped (put_byte j v) (get M.strings c)) (get M.strings c))
    go true = string_put w (get M.strings c) d j v k h
    go false = h
strings_store w rand v M c k h = h
strings_store w paper v M c k h = h

-- ---- copies

none_either_way : (b : Bool) (o : Option Shape) → o ≡ None → cond b None o ≡ None
none_either_way true o e = refl
none_either_way false o e = e

copy_stays : (J H : Shapes) (C : CellMap) → ((c : Cell) → J c ≢ None → H c ≡ J c) → ((c : Cell) → is_global c ≡ false → H c ≡ J c) → SoundCopy J C → SoundCopy H C
copy_stays J H C stays same k = record {
  shapes = λ c g. k.shapes c g ∙ sym (same c g);
  slots = λ c t g. found_stays J H stays t (in_content (get C c) t) (k.slots c t g);
}

pub all_kept : (P : SaveName → Type 0) (K : Shapes) (saves : List SaveName) (ks : List (SaveName × CellMap)) → SoundKept K saves ks → AllByRecursion P saves → AllByRecursion (λ k. P k.0) ks
all_kept P K [] [] h all = tt
all_kept P K [] (k ∷ ks) h all = absurd h
all_kept P K (r ∷ rs) [] h all = absurd h
all_kept P K (r ∷ rs) (k ∷ ks) h all = (subst P (sym h.0) all.0, all_kept P K rs ks h.4 all.1)

-- a new cell is newer than each open save, or global
kept_with_cell : (K : Shapes) (c : Cell) (sh : Shape) → K c ≡ None → (saves : List SaveName) (ks : List (SaveName × CellMap)) → (is_global c ≡ false → AllByRecursion (λ r. newer c r ≡ true) saves) → SoundKept K saves ks → SoundKept (with_cell c sh K) saves ks
kept_with_cell K c sh e [] [] all h = tt
kept_with_cell K c sh e [] (k ∷ ks) all h = h
kept_with_cell K c sh e (r ∷ rs) [] all h = h
kept_with_cell K c sh e (r ∷ rs) (k ∷ ks) all h = (h.0, h.1, copy_stays (without_newer r K) (without_newer r (with_cell c sh K)) k.1 stays same h.2, h.3, kept_with_cell K c sh e rs ks (λ g. (all g).1) h.4)
  where
    stays : (d : Cell) → without_newer r K d ≢ None → without_newer r (with_cell c sh K) d ≡ without_newer r K d
    stays d n = go (same_cell d c) refl
      where
        go : (b : Bool) → same_cell d c ≡ b → cond (newer d r) None (cond b (Some sh) (K d)) ≡ cond (newer d r) None (K d)
        go true g = absurd (n (none_either_way (newer d r) (K d) (ap K (cell_is d c g) ∙ e)))
        go false g = refl

    same : (d : Cell) → is_global d ≡ false → without_newer r (with_cell c sh K) d ≡ without_newer r K d
    same d l = go (same_cell d c) refl
      where
        go : (b : Bool) → same_cell d c ≡ b → cond (newer d r) None (cond b (Some sh) (K d)) ≡ cond (newer d r) None (K d)
        go true g =
            let eq = cell_is d c g in
            let n : newer d r ≡ true = ap (λ d. newer d r) eq ∙ (all (ap is_global (sym eq) ∙ l)).0 in
            ap (λ x. cond x None (Some sh)) n ∙ sym (ap (λ x. cond x None (K d)) n)
        go false g = refl

-- the copy under an open save, and what is kept below it
pub record Opened (K : Shapes) (s : SaveName) (saves : List SaveName) (ks : List (SaveName × CellMap)) : Type 0 where
  pub copy : CellMap
  pub is_copy : copy_named s ks ≡ Some copy
  pub above : 1 ≤ s.section
  pub fits : SoundCopy (without_newer s K) copy
  pub older : AllByRecursion (λ r. later s r ≡ true) (names_before s saves)
  pub rest : SoundKept K (names_before s saves) (older_than s ks)

pub opened_in : (K : Shapes) (s : SaveName) (saves : List SaveName) (ks : List (SaveName × CellMap)) → has_name s saves ≡ true → SoundKept K saves ks → Opened K s saves ks
opened_in K s [] ks h k = absurd (true≢false (sym h))
opened_in K s (r ∷ rs) [] h k = absurd k
opened_in K s (r ∷ rs) (x ∷ ks) h k = go (same_save s r) refl h (λ g. opened_in K s rs ks g k.4)
  where
    go : (b : Bool) → same_save s r ≡ b → cond b true (has_name s rs) ≡ true → (has_name s rs ≡ true → Opened K s rs ks) → Opened K s (r ∷ rs) (x ∷ ks)
    go true e h ih =
        let eq = save_is s r e in
        let ex = ap (same_save s) k.0 ∙ e in
        record {
          copy = x.1;
          is_copy = ap (λ b. cond b (Some x.1) (copy_named s ks)) ex;
          above = subst (λ r. 1 ≤ r.section) (sym eq) k.1;
          fits = subst (λ r. SoundCopy (without_newer r K) x.1) (sym eq) k.2;
          older = rw e (subst (λ r. AllByRecursion (λ q. later r q ≡ true) rs) (sym eq) k.3);
          rest = rw (e, ex) k.4;
        }
    go false e h ih =
        let o = ih h in
        let ex = ap (same_save s) k.0 ∙ e in
        record {
          copy = o.copy;
          is_copy = ap (λ b. cond b (Some x.1) (copy_named s ks)) ex ∙ o.is_copy;
          above = o.above;
          fits = o.fits;
          older = rw e o.older;
          rest = rw (e, ex) o.rest;
        }

-- what is kept below a restored save is told by what stands after it
kept_restored : (K : Shapes) (s : SaveName) (saves : List SaveName) (ks : List (SaveName × CellMap)) → AllByRecursion (λ r. later s r ≡ true) saves → SoundKept K saves ks → SoundKept (without_newer s K) saves ks
kept_restored K s [] [] all h = tt
kept_restored K s [] (k ∷ ks) all h = h
kept_restored K s (r ∷ rs) [] all h = h
kept_restored K s (r ∷ rs) (k ∷ ks) all h = (h.0, h.1, copy_stays (without_newer r K) (without_newer r (without_newer s K)) k.1 (λ c n. same c) (λ c g. same c) h.2, h.3, kept_restored K s rs ks all.1 h.4)
  where
    same : (c : Cell) → without_newer r (without_newer s K) c ≡ without_newer r K c
    same c = go (newer c s) refl
      where
        go : (b : Bool) → newer c s ≡ b → cond (newer c r) None (cond b None (K c)) ≡ cond (newer c r) None (K c)
        go true e = let n = newer_than_older c s r e all.0 in ap (λ x. cond x None None) n ∙ sym (ap (λ x. cond x None (K c)) n)
        go false e = refl

-- ---- the random state and the paper

rand_store : (p : Spot) (v : Value) (M : Memory) → is_kind p v ≡ true → is_kind rand (value.Rand M.rand) ≡ true → is_kind rand (value.Rand (do_store p v M).rand) ≡ true
rand_store (held c t) v M k h = ap (λ n. is_kind rand (value.Rand n)) (part_rand c (put_cell c (put_content t v)) M) ∙ h
rand_store (byte c i) v M k h = h
rand_store rand (value.Rand n) M k h = k
rand_store rand _ M k h = absurd (true≢false (sym k))
rand_store paper v M k h = h

abbrev pub HasPage : Page → Size → Type 0
HasPage x size = (p : Sheet) × (x ≡ here p) × (size_of p ≡ size)

page_store : (p : Spot) (v : Value) (M : Memory) (size : Size) → is_kind p v ≡ true → HasPage M.page size → HasPage (do_store p v M).page (new_size p v size)
page_store (held c t) v M size k h = (h.0, part_page c (put_cell c (put_content t v)) M ∙ h.1, h.2)
page_store (byte c i) v M size k h = h
page_store rand v M size k h = h
page_store paper (value.Paper p) M size k h = (p, refl, refl)
page_store paper _ M size k h = absurd (true≢false (sym k))

-- ---- each action

module _ (W : World) (M : Memory) (s : SoundMemory W M) where
  pub placed : (l : Loc) (v : Value) → IsLoc W.shapes l → is_kind (spot_of l) v ≡ true → is_place M (spot_of l) ≡ true
  placed (loc.Entry d k) v i h = dict_entry (get (part M d) d) i.0 k (s.shapes d ∙ i.1)
  placed (loc.Keys d) v i h = absurd (true≢false (sym h ∙ whole_takes_none d v))
  placed (loc.Access d) v i h = dict_access (get (part M d) d) i.0 (s.shapes d ∙ i.1)
  placed (loc.Item a j) v i h = array_item (get (part M a) a) i.0 j (s.shapes a ∙ i.1) i.2
  placed (loc.Byte c j) v i h = string_byte (get M.strings c) i.0 j (subst (λ w. StringFits w (get M.strings c)) i.1 (s.strings c)) i.2
  placed loc.Rand v i h = refl
  placed loc.Paper v i h = refl

  pub after_store : (l : Loc) (v : Value) → IsLoc W.shapes l → is_kind (spot_of l) v ≡ true → FitsSpot W.shapes (spot_of l) (is v) → SharedSpot (spot_of l) (is v) → SoundMemory (resized l v W) (do_store (spot_of l) v M)
  after_store l v i k f free = record {
    shapes = λ c. ap shape_in (store_other p (held c whole) v M (no_shape p M c there)) ∙ s.shapes c;
    slots = λ c t. slot_at c t (same_spot p (held c t)) refl;
    shared = λ c t g. shared_at c t g (same_spot p (held c t)) refl;
    start = s.start;
    unique = s.unique;
    strings = λ c. strings_store (W.shapes c) p v M c k (s.strings c);
    kept = subst (SoundKept W.shapes W.saves) (sym (kept_store p v M)) s.kept;
    rand = rand_store p v M k s.rand;
    page = page_store p v M W.size k s.page;
  }
    where
      p : Spot
      p = spot_of l

      there : is_place M p ≡ true
      there = placed l v i k

      slot_at : (c : Cell) (t : Slot) (b : Bool) → same_spot p (held c t) ≡ b → FitsFound W.shapes t (at (do_store p v M) (held c t))
      slot_at c t true e = subst (λ q. FitsSpot W.shapes q (at (do_store p v M) q)) (spot_is p (held c t) e) (subst (FitsSpot W.shapes p) (sym (stored p v M there k)) f)
      slot_at c t false e = subst (FitsFound W.shapes t) (sym (store_other p (held c t) v M e)) (s.slots c t)

      shared_at : (c : Cell) (t : Slot) → is_global c ≡ true → (b : Bool) → same_spot p (held c t) ≡ b → SharedFound c t (at (do_store p v M) (held c t))
      shared_at c t g true e = (subst (λ q. SharedSpot q (at (do_store p v M) q)) (spot_is p (held c t) e) (subst (SharedSpot p) (sym (stored p v M there k)) free)) g
      shared_at c t g false e = subst (SharedFound c t) (sym (store_other p (held c t) v M e)) (s.shared c t g)

  pub after_fresh : (c : Cell) (sh : Shape) → IsNew c W → SoundMemory (made c sh W) (do_fresh c sh M)
  after_fresh c sh new = record {
    shapes = λ d. shape_here d (same_cell d c) refl;
    slots = λ d t. slot_here d t (same_cell d c) refl;
    shared = λ d t g. shared_here d t g (same_cell d c) refl;
    start = all_map (λ e. W.shapes (named_at_start e) ≡ Some e.shape) (λ e. J (named_at_start e) ≡ Some e.shape) (λ e h. stays (named_at_start e) (λ a. apart e.shape (sym h ∙ a)) ∙ h) start_cells s.start;
    unique = λ a b x y. one_name a b (same_cell a c) (same_cell b c) refl refl x y;
    strings = λ d. string_here d (same_cell d c) refl;
    kept = subst (SoundKept J W.saves) (sym (kept_fresh c sh M)) (kept_with_cell W.shapes c sh none W.saves M.kept new.2 s.kept);
    rand = ap (λ n. is_kind rand (value.Rand n)) (part_rand c (λ m. insert m c (content_of sh)) M) ∙ s.rand;
    page = (s.page.0, part_page c (λ m. insert m c (content_of sh)) M ∙ s.page.1, s.page.2);
  }
    where
      J : Shapes
      J = with_cell c sh W.shapes

      none : W.shapes c ≡ None
      none = new.1 c refl refl

      stays : (d : Cell) → W.shapes d ≢ None → J d ≡ W.shapes d
      stays d h = go (same_cell d c) refl
        where
          go : (b : Bool) → same_cell d c ≡ b → cond b (Some sh) (W.shapes d) ≡ W.shapes d
          go true g = absurd (h (ap W.shapes (cell_is d c g) ∙ none))
          go false g = refl

      one_name : (a b : Cell) (x y : Bool) → same_cell a c ≡ x → same_cell b c ≡ y → cond x (Some sh) (W.shapes a) ≢ None → cond y (Some sh) (W.shapes b) ≢ None → a.section ≡ b.section → a.count ≡ b.count → a ≡ b
      one_name a b true true e f h k i j = cell_is a c e ∙ sym (cell_is b c f)
      one_name a b true false e f h k i j = let eq = cell_is a c e in absurd (k (new.1 b (sym i ∙ ap (λ (d : Cell). d.section) eq) (sym j ∙ ap (λ (d : Cell). d.count) eq)))
      one_name a b false true e f h k i j = let eq = cell_is b c f in absurd (h (new.1 a (i ∙ ap (λ (d : Cell). d.section) eq) (j ∙ ap (λ (d : Cell). d.count) eq)))
      one_name a b false false e f h k i j = s.unique a b h k i j

      shape_here : (d : Cell) (b : Bool) → same_cell d c ≡ b → shape_at (do_fresh c sh M) d ≡ cond b (Some sh) (W.shapes d)
      shape_here d true g = subst (λ d. shape_at (do_fresh c sh M) d ≡ Some sh) (sym (cell_is d c g)) (ap (λ o. shape_in (in_content o whole)) (held_fresh c sh M) ∙ shape_new sh)
      shape_here d false g = ap shape_in (fresh_other c sh (held d whole) M g) ∙ s.shapes d

      slot_here : (d : Cell) (t : Slot) (b : Bool) → same_cell d c ≡ b → FitsFound J t (at (do_fresh c sh M) (held d t))
      slot_here d t true g = subst (λ d. FitsFound J t (at (do_fresh c sh M) (held d t))) (sym (cell_is d c g)) (subst (λ o. FitsFound J t (in_content o t)) (sym (held_fresh c sh M)) (found_new J sh t))
      slot_here d t false g = subst (FitsFound J t) (sym (fresh_other c sh (held d t) M g)) (found_stays W.shapes J stays t (at M (held d t)) (s.slots d t))

      shared_here : (d : Cell) (t : Slot) → is_global d ≡ true → (b : Bool) → same_cell d c ≡ b → SharedFound d t (at (do_fresh c sh M) (held d t))
      shared_here d t l true g = subst (λ e. SharedFound d t (at (do_fresh c sh M) (held e t))) (sym (cell_is d c g)) (subst (λ o. SharedFound d t (in_content o t)) (sym (held_fresh c sh M)) (shared_new d sh t))
      shared_here d t l false g = subst (SharedFound d t) (sym (fresh_other c sh (held d t) M g)) (s.shared d t l)

      string_here : (d : Cell) (b : Bool) → same_cell d c ≡ b → StringFits (cond b (Some sh) (W.shapes d)) (get (new_bytes c sh M.strings) d)
      string_here d true g = subst (λ d. StringFits (Some sh) (get (new_bytes c sh M.strings) d)) (sym (cell_is d c g)) (subst (StringFits (Some sh)) (sym (string_fresh c sh M.strings)) (string_new sh))
      string_here d false g = subst (StringFits (W.shapes d)) (sym (string_fresh_other c d sh M.strings g)) (s.strings d)

  local_part : (c : Cell) → is_global c ≡ false → get M.locals c ≡ get (part M c) c
  local_part c g = ap (λ x. get (cond x M.globals M.locals) c) (sym g)

  pub after_save : (r : SaveName) → IsNewSave r W → SoundMemory (saved_at r W) (perform (save r) M)
  after_save r n = record {
    shapes = s.shapes;
    slots = s.slots;
    shared = s.shared;
    start = s.start;
    unique = s.unique;
    strings = s.strings;
    kept = (refl, n.3, copy_stays W.shapes (without_newer r W.shapes) M.locals (λ c a. nothing_newer c) (λ c g. nothing_newer c) copy, n.2, s.kept);
    rand = s.rand;
    page = s.page;
  }
    where
      nothing_newer : (c : Cell) → without_newer r W.shapes c ≡ W.shapes c
      nothing_newer c = go (newer c r) refl
        where
          go : (b : Bool) → newer c r ≡ b → cond b None (W.shapes c) ≡ W.shapes c
          go true e = sym (n.1 c e)
          go false e = refl

      copy : SoundCopy W.shapes M.locals
      copy = record {
        shapes = λ c g. ap (λ o. shape_in (in_content o whole)) (local_part c g) ∙ s.shapes c;
        slots = λ c t g. subst (λ o. FitsFound W.shapes t (in_content o t)) (sym (local_part c g)) (s.slots c t);
      }

  pub after_restore : (r : SaveName) → has_name r W.saves ≡ true → SoundMemory (restored_to r W) (perform (restore r) M)
  after_restore r h = subst (λ x. SoundMemory (restored_to r W) (do_restore r x M)) (sym o.is_copy) (record {
    shapes = λ c. ap shape_in (restored r o.copy M (held c whole)) ∙ shape_here c (is_global c) refl;
    slots = λ c t. subst (FitsFound J t) (sym (restored r o.copy M (held c t))) (slot_here c t (is_global c) refl);
    shared = λ c t g. subst (SharedFound c t) (sym (restored r o.copy M (held c t))) (subst (λ x. SharedFound c t (cond x (at M (held c t)) (in_content (get o.copy c) t))) (sym g) (s.shared c t g));
    start = all_map (λ e. W.shapes (named_at_start e) ≡ Some e.shape) (λ e. J (named_at_start e) ≡ Some e.shape) (λ e h. ap (λ b. cond b None (W.shapes (named_at_start e))) (start_is_old (named_at_start e) r refl o.above) ∙ h) start_cells s.start;
    unique = λ a b x y. s.unique a b (stood a x) (stood b y);
    strings = λ c. subst (StringFits (J c)) (sym (string_dropped r c M.strings)) (string_here c (newer c r));
    kept = kept_restored W.shapes r (names_before r W.saves) (older_than r M.kept) o.older o.rest;
    rand = s.rand;
    page = s.page;
  })
    where
      o : Opened W.shapes r W.saves M.kept
      o = opened_in W.shapes r W.saves M.kept h s.kept

      J : Shapes
      J = without_newer r W.shapes

      stood : (c : Cell) → J c ≢ None → W.shapes c ≢ None
      stood c n e = n (none_either_way (newer c r) (W.shapes c) e)

      shape_here : (c : Cell) (x : Bool) → is_global c ≡ x → shape_in (cond x (at M (held c whole)) (in_content (get o.copy c) whole)) ≡ J c
      shape_here c true g = s.shapes c ∙ sym (ap (λ b. cond b None (W.shapes c)) (global_is_old c r g))
      shape_here c false g = o.fits.shapes c g

      slot_here : (c : Cell) (t : Slot) (x : Bool) → is_global c ≡ x → FitsFound J t (cond x (at M (held c t)) (in_content (get o.copy c) t))
      slot_here c t true g = found_old W.shapes r o.above c t (at M (held c t)) (s.slots c t) (s.shared c t g)
      slot_here c t false g = o.fits.slots c t g

      string_here : (c : Cell) (x : Bool) → StringFits (cond x None (W.shapes c)) (cond (not x) (get M.strings c) None)
      string_here c true = refl
      string_here c false = s.strings c

  pub no_string : (c : Cell) → W.shapes c ≡ None → get M.strings c ≡ None
  no_string c e = subst (λ w. StringFits w (get M.strings c)) e (s.strings c)
