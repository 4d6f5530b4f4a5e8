-- The maps of the start memory, in parts.
use Rattle.std.specs.Prelude.{ℕ, List, [], ◌∷◌, take, drop}
use Rattle.std.specs.BTreeMap.{BTreeMap}
use Rattle.std.specs.FinMap.{FinMap, from_entries, insert}
use Rattle.ps_objects.specs.declared.cell.Cell.{Cell}
use Rattle.ps_objects.specs.declared.key.Key.{Key}
use Rattle.ps_objects.specs.declared.key.Key.TheVariants as key
use Rattle.ps_objects.specs.declared.object.Kind.TheVariants as kind
use Rattle.ps_objects.specs.declared.object.Object.{Object}
use Rattle.ps_names.specs.Operators.{operator_names}
use Rattle.ps_memory.specs.Order.{key_cmp}
use Rattle.ps_meaning.specs.Start.{literal, numbered, system_entries, system_values, error_entries, error_record_entries}
use Rattle.vm_content.specs.Maps.{entries_of}

-- a map with these entries put into it, the last of them first
abbrev pub with_entries : List (Key × Object) → FinMap key_cmp Object → FinMap key_cmp Object
with_entries [] m = m
with_entries (e ∷ es) m = insert (with_entries es m) e.0 e.1

-- the operators from the place i to before the place n, under their names
unfoldable pub operators_between : (i n : ℕ) → List (Key × Object)
operators_between i n = numbered i (drop i (take n operator_names))

-- ---- the maps, under names that nothing opens: their entries are many

-- the system dictionary's entries
unfoldable pub system_map : FinMap key_cmp Object
system_map = from_entries system_entries

-- the entries of `errordict`
unfoldable pub error_map : FinMap key_cmp Object
error_map = from_entries error_entries

-- the entries of `$error`
abbrev pub record_map : FinMap key_cmp Object
record_map = from_entries error_record_entries

-- the operators from the place i to before the place n
abbrev pub operator_map : (i n : ℕ) → FinMap key_cmp Object
operator_map i n = from_entries (operators_between i n)

-- ---- entries that are put

-- an object under a name
abbrev pub with_name : List ℕ → Object → BTreeMap Key Object → FinMap key_cmp Object
with_name n x m = insert (entries_of m) (key.Name n) x

-- a dictionary under a name
abbrev pub with_dict : List ℕ → Cell → BTreeMap Key Object → FinMap key_cmp Object
with_dict n d m = with_name n (literal (kind.Dict d)) m

-- the values of the system dictionary that are no operators
abbrev pub with_system_values : BTreeMap Key Object → FinMap key_cmp Object
with_system_values m = with_entries system_values (entries_of m)
