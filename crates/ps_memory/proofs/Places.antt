-- What each action does at each place.
use Rattle.std.proofs.Common.{◌≡◌, ℕ, zero, suc, Bool, true, false, cond, ◌&&◌, not, List, [], ◌∷◌, Option, Some, None, refl, sym, ap, ◌∙◌, subst, nat_eq, slice_get, slice_set, length, eqb-true, true≢false, inl, inr, ◌⊎◌, replicate}
use Rattle.std.proofs.lemmas.Bool.{eqb-false}
use Rattle.std.specs.Ordering.{is_eq}
use Rattle.std.specs.Cmp.{first_so, second_so}
use Rattle.std.specs.FinMap.{FinMap, get, insert, remove, retain_keys, get-insert, get-remove, get-retain_keys}
use Rattle.ps_objects.specs.declared.cell.Cell.{Cell}
use Rattle.ps_objects.specs.declared.cell.SaveName.{SaveName}
use Rattle.ps_objects.specs.declared.key.Key.{Key}
use Rattle.ps_objects.specs.declared.object.Object.{Object}
use Rattle.ps_objects.specs.declared.place.Value.{Value}
use Rattle.ps_objects.specs.declared.place.Value.TheVariants as value
use Rattle.ps_objects.specs.declared.place.Shape.{Shape}
use Rattle.ps_objects.specs.declared.place.Shape.TheVariants as shape
use Rattle.ps_memory.specs.Order.{cell_cmp, key_cmp}
use Rattle.ps_memory.specs.Memory.{is_global, newer, Content, dictionary, items, characters, CellMap, Memory, Slot, entry, access, item, whole, Spot, held, byte, rand, paper, Found, is, shaped, object_found, byte_found, page_found, in_content, in_string, part, at, put_entry, put_item, put_content, put_byte, put_cell, with_part, do_store, content_of, new_bytes, do_fresh, do_restore}
use Rattle.ps_memory.specs.Ownership.{same_cell, same_slot, same_spot, in_cell}
use Rattle.ps_memory.proofs.Order.{cells_total, keys_total, cell_is, cell_itself, key_is}

slot_is : (s t : Slot) → same_slot s t ≡ true → s ≡ t
slot_is (entry a) (entry b) e = ap entry (sym (key_is b a e))
slot_is access access e = refl
slot_is (item a) (item b) e = ap item (eqb-true a b e)
slot_is whole whole e = refl
slot_is _ _ e = absurd (true≢false (sym e))

both_is : {A : Type 0} (f : Cell → A → Spot) (c d : Cell) (x y : A) (b : Bool) → (b ≡ true → x ≡ y) → (same_cell d c && b) ≡ true → f c x ≡ f d y
both_is f c d x y b same e = λ i. f (sym (cell_is d c (first_so _ _ e)) i) (same (second_so _ _ e) i)

pub spot_is : (p q : Spot) → same_spot p q ≡ true → p ≡ q
spot_is (held c s) (held d t) e = both_is held c d s t _ (slot_is s t) e
spot_is (byte c i) (byte d j) e = both_is byte c d i j _ (eqb-true i j) e
spot_is rand rand e = refl
spot_is paper paper e = refl
spot_is _ _ e = absurd (true≢false (sym e))

-- ---- parts

pub part_other : (c d : Cell) (f : CellMap → CellMap) (M : Memory) → ((m : CellMap) → get (f m) d ≡ get m d) → get (part (with_part M c f) d) d ≡ get (part M d) d
part_other c d f M h = go (is_global c) (is_global d)
  where
    go : (x y : Bool) → get (cond y (cond x (record M { globals = f M.globals }) (record M { locals = f M.locals })).globals (cond x (record M { globals = f M.globals }) (record M { locals = f M.locals })).locals) d ≡ get (cond y M.globals M.locals) d
    go true true = h M.globals
    go true false = refl
    go false true = refl
    go false false = h M.locals

pub part_here : (c : Cell) (f : CellMap → CellMap) (M : Memory) → part (with_part M c f) c ≡ f (part M c)
part_here c f M = go (is_global c)
  where
    go : (x : Bool) → cond x (cond x (record M { globals = f M.globals }) (record M { locals = f M.locals })).globals (cond x (record M { globals = f M.globals }) (record M { locals = f M.locals })).locals ≡ f (cond x M.globals M.locals)
    go true = refl
    go false = refl

pub part_strings : (c : Cell) (f : CellMap → CellMap) (M : Memory) → (with_part M c f).strings ≡ M.strings
part_strings c f M = go (is_global c)
  where
    go : (x : Bool) → (cond x (record M { globals = f M.globals }) (record M { locals = f M.locals })).strings ≡ M.strings
    go true = refl
    go false = refl

pub part_rand : (c : Cell) (f : CellMap → CellMap) (M : Memory) → (with_part M c f).rand ≡ M.rand
part_rand c f M = go (is_global c)
  where
    go : (x : Bool) → (cond x (record M { globals = f M.globals }) (record M { locals = f M.locals })).rand ≡ M.rand
    go true = refl
    go false = refl

pub part_page : (c : Cell) (f : CellMap → CellMap) (M : Memory) → (with_part M c f).page ≡ M.page
part_page c f M = go (is_global c)
  where
    go : (x : Bool) → (cond x (record M { globals = f M.globals }) (record M { locals = f M.locals })).page ≡ M.page
    go true = refl
    go false = refl

module _ {X : Type 0} where
  pub insert_other : (c d : Cell) (x : X) (m : FinMap cell_cmp X) → same_cell d c ≡ false → get (insert m c x) d ≡ get m d
  insert_other c d x m e = get-insert cells_total m c x d ∙ ap (λ b. cond b (Some x) (get m d)) e

  pub insert_here : (c : Cell) (x : X) (m : FinMap cell_cmp X) → get (insert m c x) c ≡ Some x
  insert_here c x m = get-insert cells_total m c x c ∙ ap (λ b. cond b (Some x) (get m c)) (cell_itself c)

  pub put_other : (c d : Cell) (f : X → X) (m : FinMap cell_cmp X) → same_cell d c ≡ false → get (put_cell c f m) d ≡ get m d
  put_other c d f m e = go (get m c)
    where
      go : (o : Option X) → get (elim o as (λ _. FinMap cell_cmp X) [ None ↦ m | Some x ↦ insert m c (f x) ]) d ≡ get m d
      go None = refl
      go (Some x) = insert_other c d (f x) m e

abbrev pub mapped : {X : Type 0} → (X → X) → Option X → Option X
mapped f None = None
mapped f (Some x) = Some (f x)

pub put_at : {X : Type 0} (c d : Cell) (f : X → X) (m : FinMap cell_cmp X) → get (put_cell c f m) d ≡ cond (same_cell d c) (mapped f (get m d)) (get m d)
put_at {X} c d f m = go (same_cell d c) refl
  where
    here : (o : Option X) → get m c ≡ o → get (elim o as (λ _. FinMap cell_cmp X) [ None ↦ m | Some x ↦ insert m c (f x) ]) c ≡ mapped f o
    here None e = e
    here (Some x) e = insert_here c (f x) m

    go : (x : Bool) → same_cell d c ≡ x → get (put_cell c f m) d ≡ cond x (mapped f (get m d)) (get m d)
    go true e = subst (λ d. get (put_cell c f m) d ≡ mapped f (get m d)) (sym (cell_is d c e)) (here (get m c) refl)
    go false e = put_other c d f m e

-- ---- a store

item_other : {X : Type 0} (xs : List X) (i j : ℕ) (x : X) → ¬ (i ≡ j) → slice_get (slice_set xs i x) j ≡ slice_get xs j
item_other [] i j x e = refl
item_other (y ∷ ys) zero zero x e = absurd (e refl)
item_other (y ∷ ys) zero (suc j) x e = refl
item_other (y ∷ ys) (suc i) zero x e = refl
item_other (y ∷ ys) (suc i) (suc j) x e = item_other ys i j x (λ h. e (ap suc h))

pub length_set : {X : Type 0} (xs : List X) (i : ℕ) (x : X) → length (slice_set xs i x) ≡ length xs
length_set [] i x = refl
length_set (y ∷ ys) zero x = refl
length_set (y ∷ ys) (suc i) x = ap suc (length_set ys i x)

entry_other : (k j : Key) (v : Value) (es : FinMap key_cmp Object) → same_slot (entry k) (entry j) ≡ false → get (put_entry k v es) j ≡ get es j
entry_other k j value.Absent es e = get-remove keys_total es k j ∙ ap (λ b. cond b None (get es j)) e
entry_other k j (value.Object x) es e = get-insert keys_total es k x j ∙ ap (λ b. cond b (Some x) (get es j)) e
entry_other k j _ es e = refl

put_item_other : (i j : ℕ) (v : Value) (xs : List Object) → ¬ (i ≡ j) → slice_get (put_item i v xs) j ≡ slice_get xs j
put_item_other i j (value.Object x) xs e = item_other xs i j x e
put_item_other i j _ xs e = refl

pub length_put : (i : ℕ) (v : Value) (xs : List Object) → length (put_item i v xs) ≡ length xs
length_put i (value.Object x) xs = length_set xs i x
length_put i _ xs = refl

slot_other : (s t : Slot) (v : Value) (x : Content) → same_slot s t ≡ false → in_content (Some (put_content s v x)) t ≡ in_content (Some x) t
slot_other (entry k) (entry j) v (dictionary n a es) e = ap object_found (entry_other k j v es e)
slot_other access access v x e = absurd (true≢false e)
slot_other (item i) (item j) v (items xs) e = ap object_found (put_item_other i j v xs (eqb-false i j e))
slot_other (item i) whole v (items xs) e = ap (λ n. shaped (shape.Array n)) (length_put i v xs)
slot_other (entry k) _ v (dictionary n a es) e = refl
slot_other (entry k) t v (items xs) e = refl
slot_other (entry k) t v (characters n) e = refl
slot_other access _ v (dictionary n a es) e = refl
slot_other access t v (items xs) e = refl
slot_other access t v (characters n) e = refl
slot_other (item i) _ v (items xs) e = refl
slot_other (item i) t v (dictionary n a es) e = refl
slot_other (item i) t v (characters n) e = refl
slot_other whole t v x e = refl

in_put : (c : Cell) (s t : Slot) (v : Value) (m : CellMap) → same_slot s t ≡ false → in_content (get (put_cell c (put_content s v) m) c) t ≡ in_content (get m c) t
in_put c s t v m e = go (get m c) refl
  where
    go : (o : Option Content) → get m c ≡ o → in_content (get (elim o as (λ _. CellMap) [ None ↦ m | Some x ↦ insert m c (put_content s v x) ]) c) t ≡ in_content o t
    go None h = ap (λ o. in_content o t) h
    go (Some x) h = ap (λ o. in_content o t) (insert_here c (put_content s v x) m) ∙ slot_other s t v x e

byte_put : (c : Cell) (i j : ℕ) (v : Value) (m : FinMap cell_cmp (List ℕ)) → nat_eq i j ≡ false → in_string (get (put_cell c (put_byte i v) m) c) j ≡ in_string (get m c) j
byte_put c i j v m e = go (get m c) refl
  where
    one : (v : Value) (bs : List ℕ) → in_string (Some (put_byte i v bs)) j ≡ in_string (Some bs) j
    one (value.Byte n) bs = ap byte_found (item_other bs i j n (eqb-false i j e))
    one _ bs = refl

    go : (o : Option (List ℕ)) → get m c ≡ o → in_string (get (elim o as (λ _. FinMap cell_cmp (List ℕ)) [ None ↦ m | Some x ↦ insert m c (put_byte i v x) ]) c) j ≡ in_string o j
    go None h = ap (λ o. in_string o j) h
    go (Some x) h = ap (λ o. in_string o j) (insert_here c (put_byte i v x) m) ∙ one v x

pub either_false : (a b : Bool) → (a && b) ≡ false → (a ≡ false) ⊎ ((a ≡ true) × (b ≡ false))
either_false true b e = inr (refl, e)
either_false false b e = inl refl

-- a store changes its place alone
pub store_other : (p q : Spot) (v : Value) (M : Memory) → same_spot p q ≡ false → at (do_store p v M) q ≡ at M q
store_other (held c s) (held d t) v M e = go (either_false (same_cell d c) (same_slot s t) e)
  where
    go : ((same_cell d c ≡ false) ⊎ ((same_cell d c ≡ true) × (same_slot s t ≡ false))) → at (do_store (held c s) v M) (held d t) ≡ at M (held d t)
    go (inl h) = ap (λ o. in_content o t) (part_other c d (put_cell c (put_content s v)) M (λ m. put_other c d (put_content s v) m h))
    go (inr h) = subst (λ d. at (do_store (held c s) v M) (held d t) ≡ at M (held d t)) (sym (cell_is d c h.0))
        (ap (λ m. in_content (get m c) t) (part_here c (put_cell c (put_content s v)) M) ∙ in_put c s t v (part M c) h.1)
store_other (byte c i) (byte d j) v M e = go (either_false (same_cell d c) (nat_eq i j) e)
  where
    go : ((same_cell d c ≡ false) ⊎ ((same_cell d c ≡ true) × (nat_eq i j ≡ false))) → at (do_store (byte c i) v M) (byte d j) ≡ at M (byte d j)
    go (inl h) = ap (λ o. in_string o j) (put_other c d (put_byte i v) M.strings h)
    go (inr h) = subst (λ d. at (do_store (byte c i) v M) (byte d j) ≡ at M (byte d j)) (sym (cell_is d c h.0)) (byte_put c i j v M.strings h.1)
store_other rand rand v M e = absurd (true≢false e)
store_other paper paper v M e = absurd (true≢false e)
store_other (held c s) (byte d j) v M e = ap (λ m. in_string (get m d) j) (part_strings c (put_cell c (put_content s v)) M)
store_other (held c s) rand v M e = ap (λ n. is (value.Rand n)) (part_rand c (put_cell c (put_content s v)) M)
store_other (held c s) paper v M e = ap page_found (part_page c (put_cell c (put_content s v)) M)
store_other (byte c i) (held d t) v M e = refl
store_other (byte c i) rand v M e = refl
store_other (byte c i) paper v M e = refl
store_other rand (held d t) v M e = refl
store_other rand (byte d j) v M e = refl
store_other rand paper v M e = refl
store_other paper (held d t) v M e = refl
store_other paper (byte d j) v M e = refl
store_other paper rand v M e = refl

-- ---- a new cell

pub held_fresh : (c : Cell) (sh : Shape) (M : Memory) → get (part (do_fresh c sh M) c) c ≡ Some (content_of sh)
held_fresh c sh M = ap (λ m. get m c) (part_here c (λ m. insert m c (content_of sh)) M) ∙ insert_here c (content_of sh) (part M c)

remove_here : {X : Type 0} (c : Cell) (m : FinMap cell_cmp X) → get (remove m c) c ≡ None
remove_here c m = get-remove cells_total m c c ∙ ap (λ b. cond b None (get m c)) (cell_itself c)

remove_other : {X : Type 0} (c d : Cell) (m : FinMap cell_cmp X) → same_cell d c ≡ false → get (remove m c) d ≡ get m d
remove_other c d m e = get-remove cells_total m c d ∙ ap (λ b. cond b None (get m d)) e

abbrev pub bytes_new : Shape → Option (List ℕ)
bytes_new (shape.Dict n) = None
bytes_new (shape.Array n) = None
bytes_new (shape.Str n) = Some (replicate n 0)

pub string_fresh : (c : Cell) (sh : Shape) (m : FinMap cell_cmp (List ℕ)) → get (new_bytes c sh m) c ≡ bytes_new sh
string_fresh c (shape.Dict n) m = remove_here c m
string_fresh c (shape.Array n) m = remove_here c m
string_fresh c (shape.Str n) m = insert_here c (replicate n 0) m

pub string_fresh_other : (c d : Cell) (sh : Shape) (m : FinMap cell_cmp (List ℕ)) → same_cell d c ≡ false → get (new_bytes c sh m) d ≡ get m d
string_fresh_other c d (shape.Dict n) m e = remove_other c d m e
string_fresh_other c d (shape.Array n) m e = remove_other c d m e
string_fresh_other c d (shape.Str n) m e = insert_other c d (replicate n 0) m e

pub fresh_here : (c : Cell) (sh : Shape) (q : Spot) (M N : Memory) → in_cell c q ≡ true → at (do_fresh c sh M) q ≡ at (do_fresh c sh N) q
fresh_here c sh (held d t) M N e = subst (λ d. at (do_fresh c sh M) (held d t) ≡ at (do_fresh c sh N) (held d t)) (sym (cell_is d c e))
    (ap (λ o. in_content o t) (held_fresh c sh M ∙ sym (held_fresh c sh N)))
fresh_here c sh (byte d j) M N e = subst (λ d. at (do_fresh c sh M) (byte d j) ≡ at (do_fresh c sh N) (byte d j)) (sym (cell_is d c e))
    (ap (λ o. in_string o j) (string_fresh c sh M.strings ∙ sym (string_fresh c sh N.strings)))
fresh_here c sh rand M N e = absurd (true≢false (sym e))
fresh_here c sh paper M N e = absurd (true≢false (sym e))

pub fresh_other : (c : Cell) (sh : Shape) (q : Spot) (M : Memory) → in_cell c q ≡ false → at (do_fresh c sh M) q ≡ at M q
fresh_other c sh (held d t) M e = ap (λ o. in_content o t) (part_other c d (λ m. insert m c (content_of sh)) M (λ m. insert_other c d (content_of sh) m e))
fresh_other c sh (byte d j) M e = ap (λ o. in_string o j) (string_fresh_other c d sh M.strings e)
fresh_other c sh rand M e = ap (λ n. is (value.Rand n)) (part_rand c (λ m. insert m c (content_of sh)) M)
fresh_other c sh paper M e = ap page_found (part_page c (λ m. insert m c (content_of sh)) M)

-- ---- a restore

pub kept_at : {X : Type 0} (s : SaveName) (d : Cell) (m : FinMap cell_cmp X) → get (retain_keys m (λ c. not (newer c s))) d ≡ cond (not (newer d s)) (get m d) None
kept_at s d m = get-retain_keys m (λ c. not (newer c s)) d (λ x h. ap (λ c. not (newer c s)) (sym (cell_is d x (ap is_eq h))))

-- the local part is the copy's; strings newer than the save are gone; all else stays
pub restored : (s : SaveName) (copy : CellMap) (M : Memory) (q : Spot) → at (do_restore s (Some copy) M) q ≡ elim q as (λ _. Found) [
  | held c t ↦ cond (is_global c) (at M (held c t)) (in_content (get copy c) t)
  | byte c j ↦ cond (newer c s) (is value.Absent) (at M (byte c j))
  | rand ↦ at M rand
  | paper ↦ at M paper
]
restored s copy M (held c t) = go (is_global c)
  where
    go : (x : Bool) → in_content (get (cond x M.globals copy) c) t ≡ cond x (in_content (get (cond x M.globals M.locals) c) t) (in_content (get copy c) t)
    go true = refl
    go false = refl
restored s copy M (byte c j) = ap (λ o. in_string o j) (kept_at s c M.strings) ∙ go (newer c s)
  where
    go : (x : Bool) → in_string (cond (not x) (get M.strings c) None) j ≡ cond x (is value.Absent) (at M (byte c j))
    go true = refl
    go false = refl
restored s copy M rand = refl
restored s copy M paper = refl
