-- Finite maps of the entries of a `BTreeMap`.
use Rattle.std.proofs.Common.{◌≡◌, cond, List, [], ◌∷◌, Some, None, refl, ap, sym, ◌∙◌}
use Rattle.std.specs.declared.cmp.Ordering.{Ordering}
use Rattle.std.specs.Cmp.{IsTotalOrder, eq_by_cmp_equiv}
use Rattle.std.specs.Map.{lookup}
use Rattle.std.specs.BTreeMap.{is_at}
use Rattle.std.specs.FinMap as map
use Rattle.std.specs.FinMap.{IsAntisymmetric, find, from_entries, get-from_entries, same_map, get-insert, get-remove}
use Rattle.ps_objects.specs.declared.key.Key.{Key}
use Rattle.ps_objects.specs.declared.object.Object.{Object}
use Rattle.ps_memory.specs.Order.{key_cmp}
use Rattle.ps_memory.proofs.Order.{keys_total, keys_antisymmetric}

find_lookup : {K X : Type 0} (R : K → K → Ordering) (es : List (K × X)) (q : K) → find R q es ≡ lookup (is_at (R q)) es
find_lookup R [] q = refl
find_lookup R (e ∷ es) q = ap (cond (is_at (R q) e.0) (Some e.1)) (find_lookup R es q)

-- what the map of some entries has at a key
pub get_entries : {K X : Type 0} {R : K → K → Ordering} → IsTotalOrder R → (es : List (K × X)) (q : K) → map.get (from_entries {R = R} es) q ≡ lookup (is_at (R q)) es
get_entries {R = R} o es q = get-from_entries o es q ∙ find_lookup R es q

-- entries that differ at one key make maps that differ there
pub one_inserted : {K X : Type 0} {R : K → K → Ordering} → IsTotalOrder R → IsAntisymmetric R → (es fs : List (K × X)) (k : K) (v : X) → ((q : K) → lookup (is_at (R q)) fs ≡ cond (is_at (R k) q) (Some v) (lookup (is_at (R q)) es)) → from_entries {R = R} fs ≡ map.insert (from_entries es) k v
one_inserted {R = R} o exact es fs k v h = same_map o exact _ _ (λ q.
    get_entries o fs q ∙ h q ∙ ap (λ b. cond b (Some v) (lookup (is_at (R q)) es)) ((eq_by_cmp_equiv o).symm k q)
    ∙ sym (get-insert o (from_entries es) k v q ∙ ap (cond (is_at (R q) k) (Some v)) (get_entries o es q)))

pub one_removed : {K X : Type 0} {R : K → K → Ordering} → IsTotalOrder R → IsAntisymmetric R → (es fs : List (K × X)) (k : K) → ((q : K) → lookup (is_at (R q)) fs ≡ cond (is_at (R k) q) None (lookup (is_at (R q)) es)) → from_entries {R = R} fs ≡ map.remove (from_entries es) k
one_removed {R = R} o exact es fs k h = same_map o exact _ _ (λ q.
    get_entries o fs q ∙ h q ∙ ap (λ b. cond b None (lookup (is_at (R q)) es)) ((eq_by_cmp_equiv o).symm k q)
    ∙ sym (get-remove o (from_entries es) k q ∙ ap (cond (is_at (R q) k) None) (get_entries o es q)))

pub entry_found : (es : List (Key × Object)) (q : Key) → map.get (from_entries {R = key_cmp} es) q ≡ lookup (is_at (key_cmp q)) es
entry_found es q = get_entries keys_total es q

pub entry_stored : (es fs : List (Key × Object)) (k : Key) (v : Object) → ((q : Key) → lookup (is_at (key_cmp q)) fs ≡ cond (is_at (key_cmp k) q) (Some v) (lookup (is_at (key_cmp q)) es)) → from_entries {R = key_cmp} fs ≡ map.insert (from_entries es) k v
entry_stored = one_inserted keys_total keys_antisymmetric

pub entry_removed : (es fs : List (Key × Object)) (k : Key) → ((q : Key) → lookup (is_at (key_cmp q)) fs ≡ cond (is_at (key_cmp k) q) None (lookup (is_at (key_cmp q)) es)) → from_entries {R = key_cmp} fs ≡ map.remove (from_entries es) k
entry_removed = one_removed keys_total keys_antisymmetric
