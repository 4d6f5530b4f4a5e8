-- Dictionaries that are made of pairs (section 8.2 of the language manual).
use Rattle.std.specs.Prelude.{ℕ, zero, suc, ◌+◌, ◌*◌, ◌/◌, ◌%◌, nat_eq, nat_lt, if◌then◌else◌}
use Rattle.std.specs.Prelude.{List, [], ◌∷◌, drop, Option, None, Result, Ok, Err}
use Rattle.ps_names.specs.declared.error_name.ErrorName.{ErrorName}
use Rattle.ps_names.specs.declared.error_name.ErrorName.TheVariants.{RangeCheck, TypeCheck}
use Rattle.ps_objects.specs.declared.cell.Cell.{Cell}
use Rattle.ps_objects.specs.declared.key.KeyForm.TheVariants as form
use Rattle.ps_objects.specs.declared.object.Object.{Object}
use Rattle.ps_objects.specs.declared.object.Kind.{Kind}
use Rattle.ps_objects.specs.declared.object.Kind.TheVariants as kind
use Rattle.ps_objects.specs.declared.place.Loc.TheVariants as loc
use Rattle.ps_objects.specs.declared.place.Value.TheVariants as value
use Rattle.ps_objects.specs.declared.place.Shape.TheVariants as shape
use Rattle.ps_objects.specs.Key.{key_form_at}
use Rattle.ps_objects.specs.Object.{cell_named}
use Rattle.ps_objects.specs.Operands.{object_at, typed}
use Rattle.ps_kinds.specs.declared.frame.Pair.{Pair}
use Rattle.ps_kinds.specs.declared.state.State.{State}
use Rattle.ps_memory.specs.Tree.{Change, Application, done, puts, makes}
use Rattle.ps_operator.specs.Tree.{Ask, read, look_then, found}
use Rattle.ps_operator.specs.Budgets.{unit_room, storable_entry}
use Rattle.ps_operator.specs.Keys.{key_right_at, key_length, key_of}
use Rattle.ps_operator.specs.Making.{next_cell}
use Rattle.ps_operator.specs.Marks.{above_mark}
use Rattle.ps_operator.specs.Registers.{ops, literal, with_ops, spent, quiet}
use Rattle.dict_ops.specs.declared.pairs.Stage.{Stage}
use Rattle.dict_ops.specs.declared.pairs.Stage.TheVariants as stage

-- pairs are stored in their order
abbrev pub pair_stores : Cell → List Pair → List Change
pair_stores d [] = []
pair_stores d (p ∷ ps) = puts (loc.Entry d p.key) (value.Object p.value) ∷ pair_stores d ps

-- ---- the operands above a mark: pair n has its value at depth 2n, and its key below

-- half of them
abbrev pub pairs_in : ℕ → Result ℕ ErrorName
pairs_in n = if nat_eq (n % 2) 0 then Ok (n / 2) else Err RangeCheck

-- how deep a value lies, and its key
abbrev pub value_depth : ℕ → ℕ
value_depth n = n * 2

-- how deep a key lies
abbrev pub key_depth : ℕ → ℕ
key_depth n = n * 2 + 1

-- goes on with what was read
abbrev pub then_read : {A B : Type 0} → Result A ErrorName → (A → Result B ErrorName) → Result B ErrorName
then_read (Ok x) k = k x
then_read (Err e) k = Err e

-- a key is no null
abbrev pub typed_key : Kind → Result (Unit {0}) ErrorName
typed_key kind.Null = Err TypeCheck
typed_key _ = Ok tt

-- a string that is a key has at most 127 bytes
abbrev pub short_key : Kind → Result (Unit {0}) ErrorName
short_key (kind.Str a) = key_length (form.Text a)
short_key _ = Ok tt

-- the cell that a key names; a string becomes a name, which names none
abbrev pub key_cell : Kind → Option Cell
key_cell (kind.Str a) = None
key_cell k = cell_named k

-- a string that is a key is read, and the pair may lie in this dictionary
abbrev pub pair_right : Cell → List Object → ℕ → Result (Unit {0}) ErrorName
pair_right d xs n =
    then_read (key_right_at (key_depth n) xs) (λ _.
    then_read (object_at (key_depth n) xs) (λ k.
    then_read (object_at (value_depth n) xs) (λ x.
    storable_entry d (key_cell k.kind) x.kind)))

-- whether a pair passes a stage
abbrev pub passes : Stage → List Object → ℕ → Result (Unit {0}) ErrorName
passes stage.Typed xs n = typed typed_key (key_depth n) xs
passes (stage.Right d) xs n = pair_right d xs n
passes stage.Short xs n = typed short_key (key_depth n) xs

-- whether so many pairs pass it, from one on, the newest first
abbrev pub each_passes : Stage → List Object → ℕ → ℕ → Result (Unit {0}) ErrorName
each_passes t xs at zero = Ok tt
each_passes t xs at (suc n) = then_read (passes t xs at) (λ _. each_passes t xs (at + 1) n)

-- the same of all of them
abbrev pub all_pass : Stage → List Object → ℕ → Result (Unit {0}) ErrorName
all_pass t xs n = each_passes t xs 0 n

-- so many pairs from one on, the oldest first, before those that were seen; the newest key is looked at first
abbrev pub pairs_from : List Object → ℕ → ℕ → List Pair → Application (List Pair)
pairs_from xs at zero seen = found seen
pairs_from xs at (suc n) seen =
    read (key_form_at (key_depth at) xs) (λ f.
    read (object_at (value_depth at) xs) (λ x.
    look_then (key_of f) (λ key.
    pairs_from xs (at + 1) n (record { key = key; value = x } ∷ seen))))

-- mark k x .. >> d: a new dictionary with the pairs above the mark, of which later ones win
abbrev pub pairs_dict : State → Ask
pairs_dict s =
    read (above_mark (ops s)) (λ n.
    read (pairs_in n) (λ m.
    read (all_pass stage.Typed (ops s) m) (λ _.
    read (all_pass (stage.Right (next_cell s)) (ops s) m) (λ _.
    read (all_pass stage.Short (ops s) m) (λ _.
    read (unit_room s.kind s.units m) (λ _.
    look_then (pairs_from (ops s) 0 m []) (λ ps.
    done (makes (next_cell s) (shape.Dict m) ∷ pair_stores (next_cell s) ps)
    (quiet (spent (with_ops s (literal (kind.Dict (next_cell s)) ∷ drop (n + 1) (ops s))) m)))))))))
