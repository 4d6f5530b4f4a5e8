-- Dictionaries that are copied (section 8.2 of the language manual).
use Rattle.std.specs.Prelude.{ℕ, ◌&&◌, cond, if◌then◌else◌, List, [], ◌∷◌, drop, length}
use Rattle.std.specs.Prelude.{Option, Some, None, Result, Ok, Err}
use Rattle.ps_names.specs.declared.error_name.ErrorName.{ErrorName}
use Rattle.ps_names.specs.declared.error_name.ErrorName.TheVariants.{InvalidAccess}
use Rattle.ps_objects.specs.declared.cell.Cell.{Cell}
use Rattle.ps_objects.specs.declared.key.Key.{Key}
use Rattle.ps_objects.specs.declared.object.Object.{Object}
use Rattle.ps_objects.specs.Access.{read_right, write_right}
use Rattle.ps_objects.specs.Key.{cell_of_key}
use Rattle.ps_objects.specs.Object.{cell_named}
use Rattle.ps_objects.specs.Operands.{needed, object_at, dict_at}
use Rattle.ps_kinds.specs.declared.frame.Pair.{Pair}
use Rattle.ps_kinds.specs.declared.state.State.{State}
use Rattle.ps_memory.specs.Memory.{is_global}
use Rattle.ps_memory.specs.Tree.{Application, done}
use Rattle.ps_operator.specs.Tree.{Ask, read, look_then, found}
use Rattle.ps_operator.specs.Budgets.{unit_room, is_local, storable_entry}
use Rattle.ps_operator.specs.Looks.{look_access, look_entry, look_keys}
use Rattle.ps_operator.specs.Registers.{ops, with_ops, spent, quiet, any_of}
use Rattle.dict_ops.specs.Entries.{is_open}
use Rattle.dict_ops.specs.Pairs.{pair_stores}

-- no key is a local composite, where the dictionary is global
abbrev pub keys_storable : Cell → List Key → Result (Unit {0}) ErrorName
keys_storable d ks =
    if is_global d && any_of (λ k. is_local (cell_of_key k)) ks then Err InvalidAccess else Ok tt

-- A value may lie under a key; where nothing is, nothing is refused.
abbrev pub value_storable : Cell → Key → Option Object → Result (Unit {0}) ErrorName
value_storable d k None = Ok tt
value_storable d k (Some x) = storable_entry d (cell_of_key k) x.kind

-- the pair of a key, where an entry is there, before those that were seen
abbrev pub with_pair : Key → Option Object → List Pair → List Pair
with_pair k None seen = seen
with_pair k (Some x) seen = record { key = k; value = x } ∷ seen

-- looks at the entries of these keys in their order, up to one that may not lie in the other dictionary: the last pair comes first
abbrev pub pairs_for : Cell → Cell → List Key → List Pair → Application (List Pair)
pairs_for target d [] seen = found seen
pairs_for target d (k ∷ ks) seen =
    look_entry d k (λ x.
    read (value_storable target k x) (λ _.
    pairs_for target d ks (with_pair k x seen)))

-- n more units, where the entries need not be looked at to know what else is refused
abbrev pub early_room : State → Cell → ℕ → Result (Unit {0}) ErrorName
early_room s target n = if is_global target then Ok tt else unit_room s.kind s.units n

-- d d copy d: all pairs of the lower dictionary are stored in the upper one, which is left
abbrev pub dict_copy : State → Ask
dict_copy s =
    read (needed 2 (ops s)) (λ _.
    read (object_at 0 (ops s)) (λ x.
    read (dict_at 0 (ops s)) (λ target.
    read (dict_at 1 (ops s)) (λ source.
    look_access target (λ a.
    read (write_right a) (λ _.
    look_access source (λ b.
    read (read_right b) (λ _.
    read (is_open target) (λ _.
    look_keys source (λ ks.
    read (keys_storable target ks) (λ _.
    read (early_room s target (length ks)) (λ _.
    look_then (pairs_for target source ks []) (λ ps.
    read (unit_room s.kind s.units (length ks)) (λ _.
    done (pair_stores target ps)
    (quiet (spent (with_ops s (x ∷ drop 2 (ops s))) (length ks)))))))))))))))))
