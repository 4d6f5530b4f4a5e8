-- The newest write at a place tells what stands there, and is the one that a store replaces.
use Rattle.std.proofs.Common.{◌≡◌, ℕ, suc, ◌<◌, ◌≤◌, Bool, true, false, cond, ◌&&◌, not, List, [], ◌∷◌, Option, Some, None, option_map, refl, sym, ap, ◌∙◌, subst, true≢false, nat_eq, nat_lt, length, arith}
use Rattle.std.specs.FinMap.{get}
use Rattle.ps_objects.specs.declared.cell.Cell.{Cell}
use Rattle.ps_objects.specs.declared.cell.SaveName.{SaveName}
use Rattle.ps_objects.specs.declared.place.Loc.{Loc}
use Rattle.ps_objects.specs.declared.place.Shape.{Shape}
use Rattle.ps_objects.specs.declared.place.Shape.TheVariants as shape
use Rattle.ps_objects.specs.declared.place.Value.{Value}
use Rattle.ps_memory.specs.Memory.{newer, Content, dictionary, items, characters, Memory, Slot, whole, Spot, held, byte, rand, paper, spot_of, is, at, in_content, in_string, content_of, part, shape_in, shape_at, is_slot, is_byte, is_place, put_content, put_byte, put_cell, Action, store, fresh, save, restore, tell, do_store, do_fresh, perform}
use Rattle.ps_memory.specs.Ownership.{same_cell, same_spot, in_cell, is_kept, outlives}
use Rattle.ps_memory.specs.Frame.{IsUnused, IsNewest}
use Rattle.ps_memory.specs.Writes.{apply, Applicable, store_replaced}
use Rattle.ps_memory.proofs.Order.{cell_is}
use Rattle.ps_memory.proofs.Places.{spot_is, mapped, put_at as put_cell_at, part_strings, held_fresh, bytes_new, string_fresh, string_fresh_other, store_other, fresh_other}
use Rattle.ps_memory.proofs.Stored.{stored, no_shape}
use Rattle.ps_memory.proofs.Replace.{place_store, place_fresh, place_save}
use Rattle.overlay_steps.specs.Newest.{newest, saved, revalued, put_at, put_over, new_at, found_in, Held}

-- ---- what stands at a place after writes

pub fresh_new : (c : Cell) (sh : Shape) (p : Spot) (M : Memory) → in_cell c p ≡ true → at (do_fresh c sh M) p ≡ new_at sh p
fresh_new c sh (held d t) M e = subst (λ d. at (do_fresh c sh M) (held d t) ≡ in_content (Some (content_of sh)) t) (sym (cell_is d c e)) (ap (λ o. in_content o t) (held_fresh c sh M))
fresh_new c sh (byte d j) M e = subst (λ d. at (do_fresh c sh M) (byte d j) ≡ in_string (bytes_new sh) j) (sym (cell_is d c e)) (ap (λ o. in_string o j) (string_fresh c sh M.strings))
fresh_new c sh rand M e = absurd (true≢false (sym e))
fresh_new c sh paper M e = absurd (true≢false (sym e))

save_same : (s : SaveName) (p : Spot) (M : Memory) → at (perform (save s) M) p ≡ at M p
save_same s (held c t) M = refl
save_same s (byte c i) M = refl
save_same s rand M = refl
save_same s paper M = refl

pub found_by : (p : Spot) (ws : List Action) (N : Memory) → Applicable ws N → at (apply ws N) p ≡ found_in p ws N
found_by p [] N f = refl
found_by p (store k v ∷ ws) N f = go (same_spot (spot_of k) p) refl (found_by p ws N f.2)
  where
    M : Memory
    M = apply ws N

    go : (b : Bool) → same_spot (spot_of k) p ≡ b → at M p ≡ found_in p ws N → at (do_store (spot_of k) v M) p ≡ cond b (is v) (found_in p ws N)
    go true e ih = subst (λ q. at (do_store (spot_of k) v M) q ≡ is v) (spot_is (spot_of k) p e) (stored (spot_of k) v M f.1.0 f.1.1)
    go false e ih = store_other (spot_of k) p v M e ∙ ih
found_by p (fresh c sh ∷ ws) N f = go (in_cell c p) refl (found_by p ws N f.2)
  where
    M : Memory
    M = apply ws N

    go : (b : Bool) → in_cell c p ≡ b → at M p ≡ found_in p ws N → at (do_fresh c sh M) p ≡ cond b (new_at sh p) (found_in p ws N)
    go true e ih = fresh_new c sh p M e
    go false e ih = fresh_other c sh p M e ∙ ih
found_by p (save s ∷ ws) N f = save_same s p (apply ws N) ∙ found_by p ws N f.2
found_by p (restore s ∷ ws) N f = absurd (true≢false (sym f.0))
found_by p (tell x ∷ ws) N f = absurd (true≢false (sym f.0))

-- ---- each string is a cell's

string_none : (p : Spot) (v : Value) (M : Memory) (c : Cell) → get M.strings c ≡ None → get (do_store p v M).strings c ≡ None
string_none (held d t) v M c e = ap (λ m. get m c) (part_strings d (put_cell d (put_content t v)) M) ∙ e
string_none (byte d j) v M c e = put_cell_at d c (put_byte j v) M.strings ∙ ap (λ o. cond (same_cell c d) (mapped (put_byte j v) o) o) e ∙ go (same_cell c d)
  where
    go : (b : Bool) → cond b (mapped (put_byte j v) None) None ≡ None
    go true = refl
    go false = refl
string_none rand v M c e = e
string_none paper v M c e = e

pub shape_stands : (sh : Shape) → shape_in (in_content (Some (content_of sh)) whole) ≡ None → ⊥
shape_stands (shape.Dict n) e = cc
shape_stands (shape.Array n) e = cc
shape_stands (shape.Str n) e = cc

held_store : (p : Spot) (v : Value) (M : Memory) → is_place M p ≡ true → Held M → Held (do_store p v M)
held_store p v M i h c e = string_none p v M c (h c (sym (ap shape_in (store_other p (held c whole) v M (no_shape p M c i))) ∙ e))

held_new : (c : Cell) (sh : Shape) (M : Memory) → Held M → Held (do_fresh c sh M)
held_new c sh M h d e = go (same_cell d c) refl
  where
    go : (b : Bool) → same_cell d c ≡ b → get (do_fresh c sh M).strings d ≡ None
    go true i = absurd (shape_stands sh (sym (ap shape_in (fresh_new c sh (held d whole) M i)) ∙ e))
    go false i = string_fresh_other c d sh M.strings i ∙ h d (sym (ap shape_in (fresh_other c sh (held d whole) M i)) ∙ e)

pub held_by : (ws : List Action) (N : Memory) → Applicable ws N → Held N → Held (apply ws N)
held_by [] N f h = h
held_by (store k v ∷ ws) N f h = held_store (spot_of k) v (apply ws N) f.1.0 (held_by ws N f.2 h)
held_by (fresh c sh ∷ ws) N f h = held_new c sh (apply ws N) (held_by ws N f.2 h)
held_by (save s ∷ ws) N f h = held_by ws N f.2 h
held_by (restore s ∷ ws) N f h = absurd (true≢false (sym f.0))
held_by (tell x ∷ ws) N f h = absurd (true≢false (sym f.0))

-- ---- what is stored to is there

no_slot : (o : Option Content) (t : Slot) → shape_in (in_content o whole) ≡ None → is_slot o t ≡ false
no_slot None t e = refl
no_slot (Some (dictionary n a es)) t e = cc
no_slot (Some (items xs)) t e = cc
no_slot (Some (characters n)) t e = cc

-- no place of a cell whose name is unused is there
pub unused_place : (c : Cell) (p : Spot) (M : Memory) → IsUnused M c → Held M → in_cell c p ≡ true → is_place M p ≡ false
unused_place c (held d t) M u h e = no_slot (get (part M d) d) t (subst (λ d. shape_at M d ≡ None) (sym (cell_is d c e)) (u c refl refl))
unused_place c (byte d i) M u h e = ap (λ o. is_byte o i) (subst (λ d. get M.strings d ≡ None) (sym (cell_is d c e)) (h c (u c refl refl)))
unused_place c rand M u h e = absurd (true≢false (sym e))
unused_place c paper M u h e = absurd (true≢false (sym e))

pub newest_there : (p : Spot) (ws : List Action) (N : Memory) (i : ℕ) → Applicable ws N → Held N → newest p ws ≡ Some i → is_place (apply ws N) p ≡ true
newest_there p [] N i f h e = cc
newest_there p (store k v ∷ ws) N i f h e = place_store (spot_of k) p v (apply ws N) ∙ go (same_spot (spot_of k) p) refl e (newest_there p ws N i f.2 h)
  where
    go : (b : Bool) → same_spot (spot_of k) p ≡ b → cond b (Some (length ws)) (newest p ws) ≡ Some i → (newest p ws ≡ Some i → is_place (apply ws N) p ≡ true) → is_place (apply ws N) p ≡ true
    go true x e ih = subst (λ q. is_place (apply ws N) q ≡ true) (spot_is (spot_of k) p x) f.1.0
    go false x e ih = ih e
newest_there p (fresh c sh ∷ ws) N i f h e = go (in_cell c p) refl (newest_there p ws N i f.2 h e)
  where
    go : (b : Bool) → in_cell c p ≡ b → is_place (apply ws N) p ≡ true → is_place (do_fresh c sh (apply ws N)) p ≡ true
    go true x there = absurd (true≢false (sym there ∙ unused_place c p (apply ws N) f.1.0 (held_by ws N f.2 h) x))
    go false x there = place_fresh c sh p (apply ws N) x ∙ there
newest_there p (save s ∷ ws) N i f h e = place_save s p (apply ws N) ∙ newest_there p ws N i f.2 h e
newest_there p (restore s ∷ ws) N i f h e = absurd (true≢false (sym f.0))
newest_there p (tell x ∷ ws) N i f h e = absurd (true≢false (sym f.0))

-- ---- where the newest write stands

some_is : {X : Type 0} (x y : X) → Some x ≡ Some y → x ≡ y
some_is x y e = cc

pub newest_below : (p : Spot) (ws : List Action) (i : ℕ) → newest p ws ≡ Some i → i < length ws
newest_below p [] i e = cc
newest_below p (store k v ∷ ws) i e = go (same_spot (spot_of k) p) e (newest_below p ws i)
  where
    go : (b : Bool) → cond b (Some (length ws)) (newest p ws) ≡ Some i → (newest p ws ≡ Some i → i < length ws) → i < suc (length ws)
    go true e ih = let h : length ws ≡ i = some_is (length ws) i e in omega (arith, h)
    go false e ih = let h : i < length ws = ih e in omega (arith, h)
newest_below p (fresh c sh ∷ ws) i e = let h : i < length ws = newest_below p ws i e in omega (arith, h)
newest_below p (save s ∷ ws) i e = let h : i < length ws = newest_below p ws i e in omega (arith, h)
newest_below p (restore s ∷ ws) i e = let h : i < length ws = newest_below p ws i e in omega (arith, h)
newest_below p (tell x ∷ ws) i e = let h : i < length ws = newest_below p ws i e in omega (arith, h)

pub saved_within : (ws : List Action) → saved ws ≤ length ws
saved_within [] = omega arith
saved_within (store k v ∷ ws) = let h : saved ws ≤ length ws = saved_within ws in omega (arith, h)
saved_within (fresh c sh ∷ ws) = let h : saved ws ≤ length ws = saved_within ws in omega (arith, h)
saved_within (save s ∷ ws) = omega arith
saved_within (restore s ∷ ws) = let h : saved ws ≤ length ws = saved_within ws in omega (arith, h)
saved_within (tell x ∷ ws) = let h : saved ws ≤ length ws = saved_within ws in omega (arith, h)

not_equal : (i n : ℕ) → i < n → nat_eq i n ≡ false
not_equal i n h = grind (arith, h)

equal_itself : (n : ℕ) → nat_eq n n ≡ true
equal_itself n = grind arith

not_below : (i n : ℕ) → n ≤ i → nat_lt i n ≡ false
not_below i n h = grind (arith, h)

is_below : (i n : ℕ) → i < n → nat_lt i n ≡ true
is_below i n h = grind (arith, h)

-- ---- the store that is store_replaced

and_not : (a : Bool) → (a && false) ≡ false
and_not true = refl
and_not false = refl

-- what is put in the writes below a write that is passed
passed : (w : Action) (p : Spot) (v : Value) (ws : List Action) → saved (w ∷ ws) ≡ saved ws → (o : Option ℕ) → ((i : ℕ) → o ≡ Some i → i < length ws)
    → option_map (λ us. w ∷ us) (put_over p o v ws) ≡ put_over p o v (w ∷ ws)
passed w p v ws e None h = refl
passed w p v ws e (Some i) h =
    go (is_kept p && nat_lt i (saved ws))
    ∙ ap (λ b. cond (is_kept p && nat_lt i (saved ws)) None (Some (cond b (revalued v w ∷ ws) (w ∷ put_at i v ws)))) (sym (not_equal i (length ws) (h i refl)))
    ∙ ap (λ n. cond (is_kept p && nat_lt i n) None (Some (put_at i v (w ∷ ws)))) (sym e)
  where
    go : (b : Bool) → option_map (λ us. w ∷ us) (cond b None (Some (put_at i v ws))) ≡ cond b None (Some (w ∷ put_at i v ws))
    go true = refl
    go false = refl

-- a place that outlives a save isn't given back
outlives_kept : (s : SaveName) (p : Spot) → outlives s p ≡ true → is_kept p ≡ false
outlives_kept s (held c t) e = ap not e
outlives_kept s (byte c i) e = refl
outlives_kept s rand e = refl
outlives_kept s paper e = refl

passed_save : (s : SaveName) (p : Spot) (v : Value) (ws : List Action) → is_kept p ≡ false → (o : Option ℕ) → ((i : ℕ) → o ≡ Some i → i < length ws)
    → option_map (λ us. save s ∷ us) (put_over p o v ws) ≡ put_over p o v (save s ∷ ws)
passed_save s p v ws k None h = refl
passed_save s p v ws k (Some i) h =
    ap (λ b. option_map (λ us. save s ∷ us) (cond (b && nat_lt i (saved ws)) None (Some (put_at i v ws)))) k
    ∙ ap (λ b. Some (cond b (revalued v (save s) ∷ ws) (save s ∷ put_at i v ws))) (sym (not_equal i (length ws) (h i refl)))
    ∙ ap (λ b. cond (b && nat_lt i (suc (length ws))) None (Some (put_at i v (save s ∷ ws)))) (sym k)

not_not : (b : Bool) → not b ≡ false → b ≡ true
not_not true e = refl
not_not false e = absurd (true≢false e)

-- a place that a save's restore gives back, or a byte that wasn't there when the save was made
stopped_save : (s : SaveName) (p : Spot) (v : Value) (ws : List Action) (M : Memory) → IsNewest M s → is_place M p ≡ true → outlives s p ≡ false → (o : Option ℕ) → ((i : ℕ) → o ≡ Some i → i < length ws)
    → None ≡ put_over p o v (save s ∷ ws)
stopped_save s p v ws M n there e None h = refl
stopped_save s (held c t) v ws M n there e (Some i) h =
    ap (λ b. cond b None (Some (put_at i v (save s ∷ ws)))) (sym (ap (λ b. not b && nat_lt i (suc (length ws))) e ∙ is_below i (suc (length ws)) (let g : i < length ws = h i refl in omega (arith, g))))
stopped_save s (byte c i) v ws M n there e (Some j) h = absurd (true≢false (sym there ∙ ap (λ o. is_byte o i) (n c (not_not (newer c s) e)).1))
stopped_save s rand v ws M n there e (Some i) h = absurd (true≢false e)
stopped_save s paper v ws M n there e (Some i) h = absurd (true≢false e)

-- A store is store_replaced where the newest one at its place stands, or nowhere.
pub replaced_by : (l : Loc) (v : Value) (ws : List Action) (N : Memory) → Applicable ws N → Held N → is_place (apply ws N) (spot_of l) ≡ true
    → store_replaced l v ws ≡ put_over (spot_of l) (newest (spot_of l) ws) v ws
replaced_by l v [] N f h there = refl
replaced_by l v (store k w ∷ ws) N f h there = go (same_spot (spot_of k) (spot_of l)) (replaced_by l v ws N f.2 h (sym (place_store (spot_of k) (spot_of l) w (apply ws N)) ∙ there))
  where
    go : (b : Bool) → store_replaced l v ws ≡ put_over (spot_of l) (newest (spot_of l) ws) v ws
        → cond b (Some (store k v ∷ ws)) (option_map (λ us. store k w ∷ us) (store_replaced l v ws)) ≡ put_over (spot_of l) (cond b (Some (length ws)) (newest (spot_of l) ws)) v (store k w ∷ ws)
    go true ih =
        ap (λ b. Some (cond b (store k v ∷ ws) (store k w ∷ put_at (length ws) v ws))) (sym (equal_itself (length ws)))
        ∙ ap (λ b. cond b None (Some (put_at (length ws) v (store k w ∷ ws)))) (sym (ap (λ b. is_kept (spot_of l) && b) (not_below (length ws) (saved ws) (saved_within ws)) ∙ and_not (is_kept (spot_of l))))
    go false ih = ap (option_map (λ us. store k w ∷ us)) ih ∙ passed (store k w) (spot_of l) v ws refl (newest (spot_of l) ws) (newest_below (spot_of l) ws)
replaced_by l v (fresh c sh ∷ ws) N f h there = go (in_cell c (spot_of l)) refl (replaced_by l v ws N f.2 h)
  where
    M : Memory
    M = apply ws N

    none : in_cell c (spot_of l) ≡ true → (o : Option ℕ) → newest (spot_of l) ws ≡ o → None ≡ put_over (spot_of l) o v (fresh c sh ∷ ws)
    none e None x = refl
    none e (Some i) x = absurd (true≢false (sym (newest_there (spot_of l) ws N i f.2 h x) ∙ unused_place c (spot_of l) M f.1.0 (held_by ws N f.2 h) e))

    go : (b : Bool) → in_cell c (spot_of l) ≡ b → (is_place M (spot_of l) ≡ true → store_replaced l v ws ≡ put_over (spot_of l) (newest (spot_of l) ws) v ws)
        → cond b None (option_map (λ us. fresh c sh ∷ us) (store_replaced l v ws)) ≡ put_over (spot_of l) (newest (spot_of l) ws) v (fresh c sh ∷ ws)
    go true e ih = none e (newest (spot_of l) ws) refl
    go false e ih =
        ap (option_map (λ us. fresh c sh ∷ us)) (ih (sym (place_fresh c sh (spot_of l) M e) ∙ there))
        ∙ passed (fresh c sh) (spot_of l) v ws refl (newest (spot_of l) ws) (newest_below (spot_of l) ws)
replaced_by l v (save s ∷ ws) N f h there = go (outlives s (spot_of l)) refl (replaced_by l v ws N f.2 h here)
  where
    here : is_place (apply ws N) (spot_of l) ≡ true
    here = sym (place_save s (spot_of l) (apply ws N)) ∙ there

    go : (b : Bool) → outlives s (spot_of l) ≡ b → store_replaced l v ws ≡ put_over (spot_of l) (newest (spot_of l) ws) v ws
        → cond b (option_map (λ us. save s ∷ us) (store_replaced l v ws)) None ≡ put_over (spot_of l) (newest (spot_of l) ws) v (save s ∷ ws)
    go true e ih = ap (option_map (λ us. save s ∷ us)) ih ∙ passed_save s (spot_of l) v ws (outlives_kept s (spot_of l) e) (newest (spot_of l) ws) (newest_below (spot_of l) ws)
    go false e ih = stopped_save s (spot_of l) v ws (apply ws N) f.1.0 here e (newest (spot_of l) ws) (newest_below (spot_of l) ws)
replaced_by l v (restore s ∷ ws) N f h there = absurd (true≢false (sym f.0))
replaced_by l v (tell x ∷ ws) N f h there = absurd (true≢false (sym f.0))
