-- The entries of a map whose keys ascend.
use Rattle.std.proofs.Common.{◌≡◌, List, [], ◌∷◌, ◌++◌, length, arith, refl, ap, sym, ◌∙◌, subst}
use Rattle.std.specs.declared.cmp.Ordering.{Ordering}
use Rattle.std.specs.declared.cmp.Ordering.TheVariants.{Less}
use Rattle.std.specs.Ordering.{match_ordering, ordering_reverse}
use Rattle.std.specs.Cmp.{IsTotalOrder}
use Rattle.std.specs.List.{AllByRecursion}
use Rattle.std.specs.List.Sorted.{IsStrictlySortedBy}
use Rattle.std.specs.Map.{keys_of}
use Rattle.std.specs.BTreeMap.{insert_entry}
use Rattle.std.specs.FinMap as map
use Rattle.std.specs.FinMap.{from_entries, put, entries-insert}
use Rattle.std.specs.FinMap.Entries.{by_order}
use Rattle.std.proofs.lemmas.Map.Keys.{sorted_head, sorted_tail}
use Rattle.ps_objects.specs.declared.key.Key.{Key}
use Rattle.ps_objects.specs.declared.object.Object.{Object}
use Rattle.ps_memory.specs.Order.{key_cmp}
use Rattle.ps_memory.proofs.Order.{keys_total}

no_items : {A : Type 0} (xs : List A) → length xs ≡ 0 → xs ≡ []
no_items [] e = refl
no_items (x ∷ xs) e = absurd (omega arith)

joined : {A : Type 0} (xs : List A) (x : A) (ys : List A) → (xs ++ x ∷ []) ++ ys ≡ xs ++ x ∷ ys
joined [] x ys = refl
joined (z ∷ xs) x ys = ap (λ zs. z ∷ zs) (joined xs x ys)

module _ {K X : Type 0} (R : K → K → Ordering) where
  put_first : (k : K) (v : X) (es : List (K × X)) → AllByRecursion (λ y. R k y ≡ Less) (keys_of es) → put R k v es ≡ (k, v) ∷ es
  put_first k v [] h = refl
  put_first k v (e ∷ es) h = ap (λ r. by_order r ((k, v) ∷ e ∷ es) ((e.0, v) ∷ es) (e ∷ put R k v es)) h.0

  no_entries : map.entries (map.empty {X = X} {R = R}) ≡ []
  no_entries = no_items (map.entries map.empty) (sym (map.len-entries map.empty) ∙ map.len-empty R X)

module _ {K X : Type 0} {R : K → K → Ordering} where
  module _ (o : IsTotalOrder R) where
    -- entries whose keys ascend are those of the map that they make
    pub entries_listed : (es : List (K × X)) → IsStrictlySortedBy R (keys_of es) → map.entries (from_entries {R = R} es) ≡ es
    entries_listed [] h = no_entries R
    entries_listed (e ∷ es) h = entries-insert o (from_entries es) e.0 e.1
        ∙ ap (put R e.0 e.1) (entries_listed es (sorted_tail R e.0 (keys_of es) h))
        ∙ put_first R e.0 e.1 es (sorted_head R e.0 (keys_of es) h)

    pub keys_listed : (es : List (K × X)) → IsStrictlySortedBy R (keys_of es) → map.keys (from_entries {R = R} es) ≡ keys_of es
    keys_listed es h = ap keys_of (entries_listed es h)

    below_later : (x k : K) (v : X) (es rest : List (K × X)) → AllByRecursion (λ y. R x y ≡ Less) (keys_of (es ++ (k, v) ∷ rest)) → R x k ≡ Less
    below_later x k v [] rest h = h.0
    below_later x k v (e ∷ es) rest h = below_later x k v es rest h.1

    -- an entry above all others is inserted at the end
    pub inserted_last : (es : List (K × X)) (k : K) (v : X) (rest : List (K × X)) → IsStrictlySortedBy R (keys_of (es ++ (k, v) ∷ rest)) → insert_entry R es k v ≡ es ++ (k, v) ∷ []
    inserted_last [] k v rest h = refl
    inserted_last (e ∷ es) k v rest h =
        let below = below_later e.0 k v es rest (sorted_head R e.0 (keys_of (es ++ (k, v) ∷ rest)) h) in
        ap (λ r. match_ordering r ((k, v) ∷ e ∷ es) ((e.0, v) ∷ es) (e ∷ insert_entry R es k v)) (o.antisymm k e.0 ∙ ap ordering_reverse below)
        ∙ ap (λ fs. e ∷ fs) (inserted_last es k v rest (sorted_tail R e.0 (keys_of (es ++ (k, v) ∷ rest)) h))

    -- the next entry of a map, inserted into those before it
    pub inserted_next : (all es fs left rest : List (K × X)) (k : K) (v : X) → IsStrictlySortedBy R (keys_of all) → es ++ left ≡ all → left ≡ (k, v) ∷ rest → fs ≡ insert_entry R es k v → fs ++ rest ≡ all
    inserted_next all es fs left rest k v sorted whole next is =
        let whole' : es ++ (k, v) ∷ rest ≡ all = ap (λ xs. es ++ xs) (sym next) ∙ whole in
        ap (λ xs. xs ++ rest) (is ∙ inserted_last es k v rest (subst (λ xs. IsStrictlySortedBy R (keys_of xs)) (sym whole') sorted))
        ∙ joined es (k, v) rest ∙ whole'

pub dictionary_keys : (es : List (Key × Object)) → IsStrictlySortedBy key_cmp (keys_of es) → map.keys (from_entries {R = key_cmp} es) ≡ keys_of es
dictionary_keys = keys_listed keys_total
