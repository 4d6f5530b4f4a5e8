-- The keys of a dictionary are told by which of its entries are there.
use Rattle.std.proofs.Common.{◌≡◌, Bool, true, false, cond, ◌&&◌, T, List, [], ◌∷◌, map, Option, Some, None, refl, sym, ap, ◌∙◌, subst, true≢false, is_some}
use Rattle.std.specs.Ordering.{eq_by_cmp, is_lt}
use Rattle.std.specs.List.{list_any}
use Rattle.std.specs.FinMap.{FinMap, get, entries, entries_sorted, get-entries, find, is_sorted, contains_key-keys}
use Rattle.std.specs.FinMap.Entries.{below_all, same_entries}
use Rattle.ps_objects.specs.declared.key.Key.{Key}
use Rattle.ps_objects.specs.declared.object.Object.{Object}
use Rattle.ps_objects.specs.declared.place.Value.{Value}
use Rattle.ps_objects.specs.declared.place.Value.TheVariants as value
use Rattle.ps_objects.specs.declared.place.Shape.TheVariants as shape
use Rattle.ps_memory.specs.Order.{key_cmp}
use Rattle.ps_memory.specs.Memory.{Content, dictionary, items, characters, entry, whole, Found, is, shaped, in_content, keys_of, object_found}
use Rattle.ps_memory.proofs.Order.{keys_total, keys_antisymmetric}

abbrev marked : Bool → Option (Unit {0})
marked true = Some tt
marked false = None

module _ {X : Type 0} where
  unit_entry : (Key × X) → (Key × Unit {0})
  unit_entry e = (e.0, tt)

  bare_below : (k : Key) (es : List (Key × X)) → below_all key_cmp k (map unit_entry es) ≡ below_all key_cmp k es
  unfolding unit_entry
  bare_below k [] = refl
  bare_below k (e ∷ es) = ap (λ b. is_lt (key_cmp k e.0) && b) (bare_below k es)

  bare_sorted : (es : List (Key × X)) → is_sorted key_cmp (map unit_entry es) ≡ is_sorted key_cmp es
  unfolding unit_entry
  bare_sorted [] = refl
  bare_sorted (e ∷ es) = λ i. bare_below e.0 es i && bare_sorted es i

  bare_find : (q : Key) (es : List (Key × X)) → find key_cmp q (map unit_entry es) ≡ marked (is_some (find key_cmp q es))
  unfolding unit_entry
  bare_find q [] = refl
  bare_find q (e ∷ es) = elim (eq_by_cmp key_cmp q e.0) as (λ b. cond b (Some tt) (find key_cmp q (map unit_entry es)) ≡ marked (is_some (cond b (Some e.1) (find key_cmp q es)))) [ true ↦ refl | false ↦ bare_find q es ]

  bare_keys : (es : List (Key × X)) → map (λ e. e.0) (map unit_entry es) ≡ map (λ e. e.0) es
  unfolding unit_entry
  bare_keys [] = refl
  bare_keys (e ∷ es) = ap (λ ks. e.0 ∷ ks) (bare_keys es)

  same_keys : (m n : FinMap key_cmp X) → ((q : Key) → is_some (get m q) ≡ is_some (get n q)) → map (λ e. e.0) (entries m) ≡ map (λ e. e.0) (entries n)
  same_keys m n h =
      let es = entries m in
      let fs = entries n in
      let same = same_entries key_cmp keys_total keys_antisymmetric (map unit_entry es) (map unit_entry fs)
      (subst T (sym (bare_sorted es)) (entries_sorted m)) (subst T (sym (bare_sorted fs)) (entries_sorted n))
      (λ q. bare_find q es ∙ ap (λ o. marked (is_some o)) (sym (get-entries m q)) ∙ ap marked (h q) ∙ ap (λ o. marked (is_some o)) (get-entries n q) ∙ sym (bare_find q fs)) in
      sym (bare_keys es) ∙ ap (map (λ e. e.0)) same ∙ bare_keys fs

  told_keys : (m n : FinMap key_cmp X) → map (λ e. e.0) (entries m) ≡ map (λ e. e.0) (entries n) → (q : Key) → is_some (get m q) ≡ is_some (get n q)
  told_keys m n e q = contains_key-keys m q ∙ ap (list_any (eq_by_cmp key_cmp q)) e ∙ sym (contains_key-keys n q)

abbrev pub is_there : Found → Bool
is_there (is value.Absent) = false
is_there _ = true

entry_there : (o : Option Object) → is_there (object_found o) ≡ is_some o
entry_there None = refl
entry_there (Some x) = refl

abbrev list_in : Value → List Key
list_in (value.Keys ks) = ks
list_in _ = []

abbrev pub is_dict : Option Content → Bool
is_dict (Some (dictionary n a es)) = true
is_dict _ = false

abbrev pub is_dict_shape : Found → Bool
is_dict_shape (shaped (shape.Dict n)) = true
is_dict_shape _ = false

pub dict_by_shape : (x : Option Content) → is_dict_shape (in_content x whole) ≡ is_dict x
dict_by_shape None = refl
dict_by_shape (Some (dictionary n a es)) = refl
dict_by_shape (Some (items xs)) = refl
dict_by_shape (Some (characters n)) = refl

-- two dictionaries of which the same entries are there have the same keys
pub keys_told : (x y : Option Content) → is_dict x ≡ is_dict y → ((k : Key) → is_there (in_content x (entry k)) ≡ is_there (in_content y (entry k))) → keys_of x ≡ keys_of y
keys_told (Some (dictionary n a es)) (Some (dictionary m b fs)) e h = ap value.Keys (same_keys es fs (λ q. sym (entry_there (get es q)) ∙ h q ∙ entry_there (get fs q)))
keys_told (Some (dictionary n a es)) _ e h = absurd (true≢false e)
keys_told _ (Some (dictionary m b fs)) e h = absurd (true≢false (sym e))
keys_told _ _ e h = refl

-- and the other way round
pub entries_told : (x y : Option Content) → keys_of x ≡ keys_of y → (k : Key) → is_there (in_content x (entry k)) ≡ is_there (in_content y (entry k))
entries_told (Some (dictionary n a es)) (Some (dictionary m b fs)) e k = entry_there (get es k) ∙ told_keys es fs (ap list_in e) k ∙ sym (entry_there (get fs k))
entries_told (Some (dictionary n a es)) _ e k = cc
entries_told _ (Some (dictionary m b fs)) e k = cc
entries_told _ _ e k = refl

pub dict_told : (x y : Option Content) → keys_of x ≡ keys_of y → is_dict x ≡ is_dict y
dict_told (Some (dictionary n a es)) (Some (dictionary m b fs)) e = refl
dict_told (Some (dictionary n a es)) _ e = cc
dict_told _ (Some (dictionary m b fs)) e = cc
dict_told _ _ e = refl
