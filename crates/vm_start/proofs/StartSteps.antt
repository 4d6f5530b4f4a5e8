-- The start memory's maps, made by one insert after another.
use Rattle.std.proofs.Common.{◌≡◌, ℕ, zero, suc, ◌-◌, ◌≤◌, ◌<◌, cond, List, [], ◌∷◌, ◌++◌, Some, refl, ap, sym, ◌∙◌, take, drop, slice_get, arith}
use Rattle.std.specs.Prelude.{codes, false}
use Rattle.std.specs.Map.{lookup}
use Rattle.std.specs.BTreeMap.{is_at}
use Rattle.std.specs.FinMap.{FinMap, from_entries, insert, empty}
use Rattle.ps_names.specs.declared.places.TheConstants.{FIRST_DEFAULT_ENTRY, OPERATOR_COUNT}
use Rattle.ps_objects.specs.declared.cell.Cell.{Cell}
use Rattle.ps_objects.specs.declared.access.Access.TheVariants.{Unlimited, ReadOnly}
use Rattle.ps_objects.specs.declared.key.Key.{Key}
use Rattle.ps_objects.specs.declared.key.Key.TheVariants as key
use Rattle.ps_objects.specs.declared.object.Object.{Object}
use Rattle.ps_objects.specs.declared.object.Kind.TheVariants as kind
use Rattle.ps_names.specs.Operators.{operator_names}
use Rattle.ps_memory.specs.Order.{cell_cmp, key_cmp}
use Rattle.ps_memory.specs.Memory.{Content, CellMap, dictionary}
use Rattle.ps_memory.proofs.Order.{cells_total, keys_total, cells_antisymmetric, keys_antisymmetric}
use Rattle.ps_meaning.specs.Start.{literal, operator, numbered, system_values, system_entries, error_entries, error_record_entries}
use Rattle.vm_content.proofs.Keyed.{one_inserted}
use Rattle.vm_start.specs.StartMaps.{with_entries, operators_between, system_map, error_map}

-- ---- one insert

pub key_put : (es fs : List (Key × Object)) (k : Key) (v : Object) → ((q : Key) → lookup (is_at (key_cmp q)) fs ≡ cond (is_at (key_cmp k) q) (Some v) (lookup (is_at (key_cmp q)) es)) → from_entries {R = key_cmp} fs ≡ insert (from_entries es) k v
key_put = one_inserted keys_total keys_antisymmetric

pub content_put : (es fs : List (Cell × Content)) (k : Cell) (v : Content) → ((q : Cell) → lookup (is_at (cell_cmp q)) fs ≡ cond (is_at (cell_cmp k) q) (Some v) (lookup (is_at (cell_cmp q)) es)) → from_entries {R = cell_cmp} fs ≡ insert (from_entries es) k v
content_put = one_inserted cells_total cells_antisymmetric

pub bytes_put : (es fs : List (Cell × List ℕ)) (k : Cell) (v : List ℕ) → ((q : Cell) → lookup (is_at (cell_cmp q)) fs ≡ cond (is_at (cell_cmp k) q) (Some v) (lookup (is_at (cell_cmp q)) es)) → from_entries {R = cell_cmp} fs ≡ insert (from_entries es) k v
bytes_put = one_inserted cells_total cells_antisymmetric

-- one insert, over the maps and the object that it is known to be of
pub put_next : (k m n : FinMap key_cmp Object) (x : Key) (v w : Object) → k ≡ insert m x v → v ≡ w → m ≡ n → k ≡ insert n x w
put_next k m n x v w e f g = e ∙ ap (insert m x) f ∙ ap (λ a. insert a x w) g

-- ---- operators

-- the list from a place on begins with what stands there
begins : (i : ℕ) (xs : List (List ℕ)) (x : List ℕ) → slice_get xs i ≡ Some x → drop i xs ≡ x ∷ drop (suc i) xs
begins i [] x h = cc
begins zero (y ∷ xs) x h = ap (λ o. o ∷ xs) (cc)
begins (suc i) (y ∷ xs) x h = begins i xs x h

within : (i n : ℕ) (xs : List (List ℕ)) (x : List ℕ) → i < n → slice_get xs i ≡ Some x → slice_get (take n xs) i ≡ Some x
within i zero xs x l h = absurd (omega arith)
within i (suc n) [] x l h = h
within zero (suc n) (y ∷ xs) x l h = h
within (suc i) (suc n) (y ∷ xs) x l h = within i n xs x (omega arith) h

none_left : (n : ℕ) (xs : List (List ℕ)) → drop n (take n xs) ≡ []
none_left zero xs = refl
none_left (suc n) [] = refl
none_left (suc n) (x ∷ xs) = none_left n xs

no_operators : (n : ℕ) → operators_between n n ≡ []
unfolding operators_between
no_operators n = ap (numbered n) (none_left n operator_names)

one_operator : (i n : ℕ) (x : List ℕ) → i < n → slice_get operator_names i ≡ Some x → operators_between i n ≡ (key.Name x, operator i) ∷ operators_between (suc i) n
unfolding operators_between
one_operator i n x l h = ap (numbered i) (begins i (take n operator_names) x (within i n operator_names x l h))

-- with the operator before a place put in, a map has the operators from there on
operator_at : (i j n : ℕ) (x : List ℕ) (m k : FinMap key_cmp Object) → suc i ≡ j → j ≤ n → slice_get operator_names i ≡ Some x → m ≡ from_entries (operators_between j n) → k ≡ insert m (key.Name x) (operator i) → k ≡ from_entries (operators_between i n)
operator_at i j n x m k s l h e f =
    let low : i < n = omega arith in
    f ∙ ap (λ a. insert a (key.Name x) (operator i)) (e ∙ ap (λ j. from_entries {R = key_cmp} (operators_between j n)) (sym s)) ∙ sym (ap (from_entries {R = key_cmp}) (one_operator i n x low h))

pub operator_put : (j n : ℕ) (x : List ℕ) (v : Object) (m k : FinMap key_cmp Object) → k ≡ insert m (key.Name x) v → v ≡ operator (j - 1) → m ≡ from_entries (operators_between j n) → slice_get operator_names (j - 1) ≡ Some x → 0 < j → j ≤ n → k ≡ from_entries (operators_between (j - 1) n)
operator_put j n x v m k f w e h p l = let s : suc (j - 1) ≡ j = omega arith in operator_at (j - 1) j n x m k s l h e (f ∙ ap (insert m (key.Name x)) w)

pub none_put : (n : ℕ) → empty ≡ from_entries {R = key_cmp} (operators_between n n)
none_put n = sym (ap (from_entries {R = key_cmp}) (no_operators n))

-- ---- the system dictionary

entries_joined : (xs ys : List (Key × Object)) → from_entries {R = key_cmp} (xs ++ ys) ≡ with_entries xs (from_entries ys)
entries_joined [] ys = refl
entries_joined (x ∷ xs) ys = ap (λ m. insert m x.0 x.1) (entries_joined xs ys)

pub system_made : (d : Content) (m k : FinMap key_cmp Object) → d ≡ dictionary 0 ReadOnly k → k ≡ with_entries system_values m → m ≡ from_entries (operators_between 0 FIRST_DEFAULT_ENTRY) → d ≡ dictionary 0 ReadOnly system_map
unfolding operators_between system_map
system_made d m k g f e = g ∙ ap (dictionary 0 ReadOnly) (f ∙ ap (with_entries system_values) e ∙ sym (entries_joined system_values (numbered 0 (take FIRST_DEFAULT_ENTRY operator_names))))

pub errors_made : (d : Content) (m : FinMap key_cmp Object) → d ≡ dictionary 0 Unlimited m → m ≡ from_entries (operators_between FIRST_DEFAULT_ENTRY OPERATOR_COUNT) → d ≡ dictionary 0 Unlimited error_map
unfolding operators_between error_map
errors_made d m g e = g ∙ ap (dictionary 0 Unlimited) e

pub record_made : (d : Content) (m n : FinMap key_cmp Object) (v : Object) → d ≡ dictionary 0 Unlimited m → m ≡ insert n (key.Name (codes "newerror")) v → v ≡ literal (kind.Boolean false) → n ≡ empty → d ≡ dictionary 0 Unlimited (from_entries error_record_entries)
record_made d m n v g e f h = g ∙ ap (dictionary 0 Unlimited) (put_next m n empty (key.Name (codes "newerror")) v (literal (kind.Boolean false)) e f h)

pub system_opened : system_map ≡ from_entries system_entries
unfolding system_map
system_opened = refl

pub errors_opened : error_map ≡ from_entries error_entries
unfolding error_map
errors_opened = refl

-- ---- cells

pub hold_next : (k m n : CellMap) (x : Cell) (v w : Content) → k ≡ insert m x v → v ≡ w → m ≡ n → k ≡ insert n x w
hold_next k m n x v w e f g = e ∙ ap (insert m x) f ∙ ap (λ a. insert a x w) g
