-- What was there before a write is given back.
use Rattle.std.proofs.Common.{◌≡◌, ℕ, zero, suc, Bool, true, false, cond, List, [], ◌∷◌, Option, Some, None, IsSome, IsTrue, ◌↔◌, refl, sym, ap, subst, ◌∙◌, true≢false, slice_get, slice_set}
use Rattle.std.specs.Ordering.{eq_by_cmp}
use Rattle.std.specs.Map.{lookup}
use Rattle.std.specs.BTreeMap.{BTreeMap, is_at, WritesThrough}
use Rattle.std.specs.FinMap.{FinMap, get, insert, remove, from_entries, get-insert, get-remove, same_map}
use Rattle.ps_objects.specs.declared.access.Access.{Access}
use Rattle.ps_objects.specs.declared.key.Key.{Key}
use Rattle.ps_objects.specs.declared.object.Object.{Object}
use Rattle.ps_objects.specs.declared.place.Loc.{Loc}
use Rattle.ps_objects.specs.declared.place.Loc.TheVariants as loc
use Rattle.ps_objects.specs.declared.place.Value.{Value}
use Rattle.ps_objects.specs.declared.place.Value.TheVariants as value
use Rattle.ps_memory.specs.Order.{key_cmp}
use Rattle.ps_memory.specs.Memory.{Content, dictionary, items, characters, value_found, object_found, put_entry, put_item, put_content}
use Rattle.ps_memory.proofs.Order.{keys_total, keys_antisymmetric, key_is, key_itself}
use Rattle.vm_content.specs.Content.{slot_in, value_in}
use Rattle.vm_content.specs.Back.{over_entry, entry_undone, place_undone, with_entries}
use Rattle.vm_content.proofs.Keyed.{entry_found, entry_stored}
use Rattle.vm_content.specs.Maps.{entries_of}

-- ---- entries

abbrev over_found : Key → Object → FinMap key_cmp Object → Option Object → FinMap key_cmp Object
over_found k x es o = elim o as (λ _. FinMap key_cmp Object) [ None ↦ es | Some y ↦ insert es k x ]

pub nothing_over : (es : List (Key × Object)) (k : Key) (x : Object) → lookup (is_at (key_cmp k)) es ≡ None → over_entry k x (from_entries es) ≡ from_entries {R = key_cmp} es
nothing_over es k x e = ap (over_found k x (from_entries es)) (entry_found es k ∙ e)

pub written_over : (m n : BTreeMap Key Object) (k : Key) (x y : Object) → Some y ≡ lookup (is_at (key_cmp k)) m.entries → WritesThrough key_cmp (key_cmp k) m x n
    → entries_of n ≡ over_entry k x (from_entries m.entries)
written_over m n k x y was h = entry_stored m.entries n.entries k x (h.3 (subst IsSome was refl)).0 ∙ sym (ap (over_found k x (from_entries m.entries)) (entry_found m.entries k ∙ sym was))

-- maps that differ at one key
abbrev Beside : Key → FinMap key_cmp Object → FinMap key_cmp Object → Type 0
Beside k es fs = (q : Key) → eq_by_cmp key_cmp q k ≡ false → get fs q ≡ get es q

removed_back : (k : Key) (es fs : FinMap key_cmp Object) → get es k ≡ None → Beside k es fs → remove fs k ≡ es
removed_back k es fs e h = same_map keys_total keys_antisymmetric (remove fs k) es (λ q. get-remove keys_total fs k q ∙ go q (eq_by_cmp key_cmp q k) refl)
  where
    go : (q : Key) (b : Bool) → eq_by_cmp key_cmp q k ≡ b → cond b None (get fs q) ≡ get es q
    go q true i = sym (ap (get es) (key_is q k i) ∙ e)
    go q false i = h q i

inserted_back : (k : Key) (y : Object) (es fs : FinMap key_cmp Object) → get es k ≡ Some y → Beside k es fs → insert fs k y ≡ es
inserted_back k y es fs e h = same_map keys_total keys_antisymmetric (insert fs k y) es (λ q. get-insert keys_total fs k y q ∙ go q (eq_by_cmp key_cmp q k) refl)
  where
    go : (q : Key) (b : Bool) → eq_by_cmp key_cmp q k ≡ b → cond b (Some y) (get fs q) ≡ get es q
    go q true i = sym (ap (get es) (key_is q k i) ∙ e)
    go q false i = h q i

over_back : (k : Key) (y z : Object) (es fs : FinMap key_cmp Object) → get es k ≡ Some y → get fs k ≡ Some z → Beside k es fs → over_entry k y fs ≡ es
over_back k y z es fs e i h = ap (over_found k y fs) i ∙ inserted_back k y es fs e h

beside : (k : Key) (w : Object) (es : FinMap key_cmp Object) → Beside k es (insert es k w)
beside k w es q i = get-insert keys_total es k w q ∙ ap (λ b. cond b (Some w) (get es q)) i

put_there : (k : Key) (w : Object) (es : FinMap key_cmp Object) → get (insert es k w) k ≡ Some w
put_there k w es = get-insert keys_total es k w k ∙ ap (λ b. cond b (Some w) (get es k)) (key_itself k)

put_entry_back : (k : Key) (v : Value) (es : FinMap key_cmp Object) → (value.Absent ≡ v → true ≡ false) → (o : Option Object) → get es k ≡ o → entry_undone k (value_found (object_found o)) (put_entry k v es) ≡ es
put_entry_back k value.Absent es h o e = absurd (true≢false (h refl))
put_entry_back k (value.Object w) es h None e = removed_back k es (insert es k w) e (beside k w es)
put_entry_back k (value.Object w) es h (Some y) e = over_back k y w es (insert es k w) e (put_there k w es) (beside k w es)
put_entry_back k _ es h None e = removed_back k es es e (λ q i. refl)
put_entry_back k _ es h (Some y) e = over_back k y y es es e e (λ q i. refl)

-- ---- items

pub set_beyond : {X : Type 0} (xs : List X) (i : ℕ) (x : X) → slice_get xs i ≡ None → slice_set xs i x ≡ xs
set_beyond [] i x e = refl
set_beyond (y ∷ ys) zero x e = cc
set_beyond (y ∷ ys) (suc i) x e = ap (λ zs. y ∷ zs) (set_beyond ys i x e)

pub set_same : {X : Type 0} (xs : List X) (i : ℕ) (y : X) → slice_get xs i ≡ Some y → slice_set xs i y ≡ xs
set_same [] i y e = refl
set_same (z ∷ zs) zero y e = cc
set_same (z ∷ zs) (suc i) y e = ap (λ ys. z ∷ ys) (set_same zs i y e)

pub set_back : {X : Type 0} (xs : List X) (i : ℕ) (x y : X) → slice_get xs i ≡ Some y → slice_set (slice_set xs i x) i y ≡ xs
set_back [] i x y e = refl
set_back (z ∷ zs) zero x y e = cc
set_back (z ∷ zs) (suc i) x y e = ap (λ ys. z ∷ ys) (set_back zs i x y e)

put_item_back : (i : ℕ) (v : Value) (xs : List Object) (o : Option Object) → slice_get xs i ≡ o → put_item i (value_found (object_found o)) (put_item i v xs) ≡ xs
put_item_back i (value.Object w) xs None e = set_beyond xs i w e
put_item_back i (value.Object w) xs (Some y) e = set_back xs i w y e
put_item_back i _ xs None e = refl
put_item_back i _ xs (Some y) e = set_same xs i y e

-- ---- contents

pub place_back : (l : Loc) (v : Value) (x : Content) (b : Bool) → IsTrue b ↔ (value.Absent ≡ v) → b ≡ false → place_undone (slot_in l) (value_in x l) (put_content (slot_in l) v x) ≡ x
place_back (loc.Entry d k) v (dictionary n a es) b h e = ap (dictionary n a) (put_entry_back k v es (λ i. sym (h.1 i) ∙ e) (get es k) refl)
place_back (loc.Item a i) v (items xs) b h e = ap items (put_item_back i v xs (slice_get xs i) refl)
place_back (loc.Entry d k) v (items xs) b h e = refl
place_back (loc.Entry d k) v (characters n) b h e = refl
place_back (loc.Access d) v (dictionary n a es) b h e = refl
place_back (loc.Access d) v (items xs) b h e = refl
place_back (loc.Access d) v (characters n) b h e = refl
place_back (loc.Item d i) v (dictionary n a es) b h e = refl
place_back (loc.Item d i) v (characters n) b h e = refl
place_back (loc.Keys d) v x b h e = refl
place_back (loc.Byte d i) v x b h e = refl
place_back loc.Rand v x b h e = refl
place_back loc.Paper v x b h e = refl

none_removed : (k : Key) (es : FinMap key_cmp Object) (o : Option Object) → get es k ≡ o → value_found (object_found o) ≡ value.Absent → remove es k ≡ es
none_removed k es None e i = removed_back k es es e (λ q j. refl)
none_removed k es (Some y) e i = cc

pub nothing_removed : (l : Loc) (x : Content) → value_in x l ≡ value.Absent → put_content (slot_in l) value.Absent x ≡ x
nothing_removed (loc.Entry d k) (dictionary n a es) h = ap (dictionary n a) (none_removed k es (get es k) refl h)
nothing_removed (loc.Entry d k) (items xs) h = refl
nothing_removed (loc.Entry d k) (characters n) h = refl
nothing_removed (loc.Access d) (dictionary n a es) h = refl
nothing_removed (loc.Access d) (items xs) h = refl
nothing_removed (loc.Access d) (characters n) h = refl
nothing_removed (loc.Item d i) (dictionary n a es) h = refl
nothing_removed (loc.Item d i) (items xs) h = refl
nothing_removed (loc.Item d i) (characters n) h = refl
nothing_removed (loc.Keys d) x h = refl
nothing_removed (loc.Byte d i) x h = refl
nothing_removed loc.Rand x h = refl
nothing_removed loc.Paper x h = refl

-- a write that takes away changes the entries alone
pub entries_back : (l : Loc) (n : ℕ) (a : Access) (es : FinMap key_cmp Object) → with_entries es (put_content (slot_in l) value.Absent (dictionary n a es)) ≡ dictionary n a es
entries_back (loc.Entry d k) n a es = refl
entries_back (loc.Keys d) n a es = refl
entries_back (loc.Access d) n a es = refl
entries_back (loc.Item d i) n a es = refl
entries_back (loc.Byte d i) n a es = refl
entries_back loc.Rand n a es = refl
entries_back loc.Paper n a es = refl

-- and nothing of what has none
pub only_entries : (l : Loc) (xs : List Object) → put_content (slot_in l) value.Absent (items xs) ≡ items xs
only_entries (loc.Entry d k) xs = refl
only_entries (loc.Keys d) xs = refl
only_entries (loc.Access d) xs = refl
only_entries (loc.Item d i) xs = refl
only_entries (loc.Byte d i) xs = refl
only_entries loc.Rand xs = refl
only_entries loc.Paper xs = refl

pub characters_stay : (l : Loc) (n : ℕ) → put_content (slot_in l) value.Absent (characters n) ≡ characters n
characters_stay (loc.Entry d k) n = refl
characters_stay (loc.Keys d) n = refl
characters_stay (loc.Access d) n = refl
characters_stay (loc.Item d i) n = refl
characters_stay (loc.Byte d i) n = refl
characters_stay loc.Rand n = refl
characters_stay loc.Paper n = refl
