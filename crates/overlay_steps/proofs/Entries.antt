-- The entries of a dictionary after writes.
use Rattle.std.proofs.Common.{◌≡◌, ℕ, zero, suc, ◌+◌, ◌<◌, Bool, true, false, cond, ◌&&◌, List, [], ◌∷◌, ◌++◌, Option, Some, None, refl, sym, ap, ◌∙◌, subst, true≢false, length, drop, slice_get, reverse, arith}
use Rattle.std.specs.FinMap.{FinMap, get, insert, remove, get-insert, get-remove}
use Rattle.ps_objects.specs.declared.cell.Cell.{Cell}
use Rattle.ps_objects.specs.declared.key.Key.{Key}
use Rattle.ps_objects.specs.declared.object.Object.{Object}
use Rattle.ps_objects.specs.declared.place.Loc.{Loc}
use Rattle.ps_objects.specs.declared.place.Loc.TheVariants as loc
use Rattle.ps_objects.specs.declared.place.Value.{Value}
use Rattle.ps_objects.specs.declared.place.Value.TheVariants as value
use Rattle.ps_memory.specs.Order.{key_cmp}
use Rattle.ps_memory.specs.Memory.{Memory, Content, dictionary, items, characters, entry, access, item, whole, Spot, held, spot_of, Found, is, in_content, object_found, put_content, is_kind, Action, store, fresh, save, restore, tell}
use Rattle.ps_memory.specs.Ownership.{same_cell, same_slot, same_spot}
use Rattle.ps_memory.specs.Writes.{apply, Applicable}
use Rattle.ps_memory.proofs.Keys.{is_dict}
use Rattle.ps_memory.proofs.Order.{keys_total}
use Rattle.overlay_steps.specs.declared.pile.Step.{Step}
use Rattle.overlay_steps.specs.Newest.{newest_value, stored_or}
use Rattle.overlay_steps.specs.Pile.{action_of, acts}
use Rattle.overlay_steps.specs.Entries.{value_put, entry_put, entries_put, entries_from}
use Rattle.overlay_steps.proofs.Piles.{reverse_end}

-- ---- in either order of the list

put_end : (d : Cell) (ys : List Step) (y : Step) (x : Content) → entries_put d (acts (ys ++ y ∷ [])) x ≡ entries_put d (acts ys) (entry_put d (action_of y.note) x)
put_end d [] y x = refl
put_end d (s ∷ ys) y x = ap (entry_put d (action_of s.note)) (put_end d ys y x)

pub turned_entries : (d : Cell) (xs : List Step) (x : Content) → entries_from d xs x ≡ entries_put d (acts (reverse xs)) x
turned_entries d [] x = refl
turned_entries d (s ∷ xs) x = turned_entries d xs (entry_put d (action_of s.note) x) ∙ sym (ap (λ ys. entries_put d (acts ys) x) (reverse_end s xs) ∙ put_end d (reverse xs) s x)

next_step : (xs : List Step) (i : ℕ) (s : Step) → slice_get xs i ≡ Some s → drop i xs ≡ s ∷ drop (suc i) xs
next_step [] i s h = cc
next_step (x ∷ xs) zero s h = let is : x ≡ s = cc in ap (λ y. y ∷ xs) is
next_step (x ∷ xs) (suc i) s h = next_step xs i s h

pub step_put : (d : Cell) (xs : List Step) (i : ℕ) (s : Step) (x y all : Content) → entries_from d (drop i xs) x ≡ all → slice_get xs i ≡ Some s → y ≡ entry_put d (action_of s.note) x → entries_from d (drop (i + 1) xs) y ≡ all
step_put d xs i s x y all h e p =
    let next : i + 1 ≡ suc i = omega arith in
    ap (entries_from d (drop (i + 1) xs)) p ∙ ap (λ n. entries_from d (drop n xs) (entry_put d (action_of s.note) x)) next
    ∙ sym (ap (λ ys. entries_from d ys x) (next_step xs i s e)) ∙ h

pub all_put : (d : Cell) (xs : List Step) (i : ℕ) (x all : Content) → entries_from d (drop i xs) x ≡ all → (i < length xs → ⊥) → x ≡ all
all_put d xs i x all h e = sym (ap (λ ys. entries_from d ys x) (none_left xs i e)) ∙ h
  where
    none_left : (xs : List Step) (i : ℕ) → (i < length xs → ⊥) → drop i xs ≡ []
    none_left [] zero e = refl
    none_left [] (suc i) e = refl
    none_left (y ∷ xs) zero e = absurd (e (omega arith))
    none_left (y ∷ xs) (suc i) e = none_left xs i (λ l. e (omega (arith, l)))

-- ---- what stands at an entry

put_dict : (t : Key) (v : Value) (x : Content) → is_dict (Some (put_content (entry t) v x)) ≡ is_dict (Some x)
put_dict t v (dictionary n a es) = refl
put_dict t v (items xs) = refl
put_dict t v (characters n) = refl

pub entries_dict : (d : Cell) (ws : List Action) (x : Content) → is_dict (Some (entries_put d ws x)) ≡ is_dict (Some x)
entries_dict d [] x = refl
entries_dict d (w ∷ ws) x = go w ∙ entries_dict d ws x
  where
    y : Content
    y = entries_put d ws x

    one : (b : Bool) (k : Key) (v : Value) → is_dict (Some (cond b (put_content (entry k) v y) y)) ≡ is_dict (Some y)
    one true k v = put_dict k v y
    one false k v = refl

    at : (l : Loc) (v : Value) → is_dict (Some (value_put d l v y)) ≡ is_dict (Some y)
    at (loc.Entry e k) v = one (same_cell d e) k v
    at (loc.Keys e) v = refl
    at (loc.Access e) v = refl
    at (loc.Item a i) v = refl
    at (loc.Byte s i) v = refl
    at loc.Rand v = refl
    at loc.Paper v = refl

    go : (w : Action) → is_dict (Some (entry_put d w y)) ≡ is_dict (Some y)
    go (store l v) = at l v
    go (fresh c sh) = refl
    go (save s) = refl
    go (restore s) = refl
    go (tell o) = refl

-- a value of an entry's kind stands where it was put
put_found : (c : Cell) (k q : Key) (v : Value) (x : Content) → is_dict (Some x) ≡ true → is_kind (held c (entry k)) v ≡ true
    → in_content (Some (put_content (entry k) v x)) (entry q) ≡ cond (same_slot (entry k) (entry q)) (is v) (in_content (Some x) (entry q))
put_found c k q value.Absent (dictionary n a es) d e = ap object_found (get-remove keys_total es k q) ∙ go (same_slot (entry k) (entry q))
  where
    go : (b : Bool) → object_found (cond b None (get es q)) ≡ cond b (is value.Absent) (object_found (get es q))
    go true = refl
    go false = refl
put_found c k q (value.Object o) (dictionary n a es) d e = ap object_found (get-insert keys_total es k o q) ∙ go (same_slot (entry k) (entry q))
  where
    go : (b : Bool) → object_found (cond b (Some o) (get es q)) ≡ cond b (is (value.Object o)) (object_found (get es q))
    go true = refl
    go false = refl
put_found c k q (value.Byte n) x d e = absurd (true≢false (sym e))
put_found c k q (value.Access a) x d e = absurd (true≢false (sym e))
put_found c k q (value.Keys ks) x d e = absurd (true≢false (sym e))
put_found c k q (value.Rand n) x d e = absurd (true≢false (sym e))
put_found c k q (value.Paper p) x d e = absurd (true≢false (sym e))
put_found c k q v (items xs) d e = absurd (true≢false (sym d))
put_found c k q v (characters n) d e = absurd (true≢false (sym d))

and_false : (a : Bool) → (a && false) ≡ false
and_false true = refl
and_false false = refl

-- what stands at an entry after writes: the newest store there, or what stood there before
pub entries_found : (d : Cell) (q : Key) (ws : List Action) (N : Memory) (x : Content) → Applicable ws N → is_dict (Some x) ≡ true
    → in_content (Some (entries_put d ws x)) (entry q) ≡ stored_or (newest_value (held d (entry q)) ws) (in_content (Some x) (entry q))
entries_found d q [] N x f h = refl
entries_found d q (store l v ∷ ws) N x f h = at l f.1.1 (entries_found d q ws N x f.2 h)
  where
    y : Content
    y = entries_put d ws x

    below : Found
    below = stored_or (newest_value (held d (entry q)) ws) (in_content (Some x) (entry q))

    other : (b : Bool) → b ≡ false → in_content (Some y) (entry q) ≡ below → in_content (Some y) (entry q) ≡ stored_or (cond b (Some v) (newest_value (held d (entry q)) ws)) (in_content (Some x) (entry q))
    other true e ih = absurd (true≢false e)
    other false e ih = ih

    one : (e : Cell) (k : Key) (b : Bool) → same_cell d e ≡ b → is_kind (held e (entry k)) v ≡ true → in_content (Some y) (entry q) ≡ below
        → in_content (Some (cond b (put_content (entry k) v y) y)) (entry q) ≡ stored_or (cond (same_cell d e && same_slot (entry k) (entry q)) (Some v) (newest_value (held d (entry q)) ws)) (in_content (Some x) (entry q))
    one e k true i s ih = put_found e k q v y (entries_dict d ws x ∙ h) s ∙ two (same_slot (entry k) (entry q)) ih ∙ ap (λ b. stored_or (cond (b && same_slot (entry k) (entry q)) (Some v) (newest_value (held d (entry q)) ws)) (in_content (Some x) (entry q))) (sym i)
      where
        two : (b : Bool) → in_content (Some y) (entry q) ≡ below → cond b (is v) (in_content (Some y) (entry q)) ≡ stored_or (cond b (Some v) (newest_value (held d (entry q)) ws)) (in_content (Some x) (entry q))
        two true ih = refl
        two false ih = ih
    one e k false i s ih = other (same_cell d e && same_slot (entry k) (entry q)) (ap (λ b. b && same_slot (entry k) (entry q)) i) ih

    at : (l : Loc) → is_kind (spot_of l) v ≡ true → in_content (Some y) (entry q) ≡ below
        → in_content (Some (value_put d l v y)) (entry q) ≡ stored_or (cond (same_spot (spot_of l) (held d (entry q))) (Some v) (newest_value (held d (entry q)) ws)) (in_content (Some x) (entry q))
    at (loc.Entry e k) s ih = one e k (same_cell d e) refl s ih
    at (loc.Keys e) s ih = other (same_spot (held e whole) (held d (entry q))) (and_false (same_cell d e)) ih
    at (loc.Access e) s ih = other (same_spot (held e access) (held d (entry q))) (and_false (same_cell d e)) ih
    at (loc.Item a i) s ih = other (same_spot (held a (item i)) (held d (entry q))) (and_false (same_cell d a)) ih
    at (loc.Byte s i) k ih = ih
    at loc.Rand s ih = ih
    at loc.Paper s ih = ih
entries_found d q (fresh c sh ∷ ws) N x f h = entries_found d q ws N x f.2 h
entries_found d q (save s ∷ ws) N x f h = entries_found d q ws N x f.2 h
entries_found d q (restore s ∷ ws) N x f h = absurd (true≢false (sym f.0))
entries_found d q (tell o ∷ ws) N x f h = absurd (true≢false (sym f.0))
