-- Names of a procedure that become the operators that they find (section 8.2 of the language manual).
use Rattle.std.specs.Prelude.{ℕ, zero, suc, ◌+◌, Bool, true, ◌&&◌, nat_lt, if◌then◌else◌, List, [], ◌∷◌}
use Rattle.std.specs.Prelude.{Option, Some, None, Ok, Err}
use Rattle.std.specs.List.{list_any}
use Rattle.std.specs.BTreeMap.{is_at}
use Rattle.std.specs.BTreeSet.{insert_key}
use Rattle.std.specs.declared.cmp.Ordering.{Ordering}
use Rattle.ps_objects.specs.contracts.objects.IntervalOrd.TheImpl as interval_order
use Rattle.ps_objects.specs.declared.access.Access.{Access}
use Rattle.ps_objects.specs.declared.access.Access.TheVariants.{Unlimited, ReadOnly}
use Rattle.ps_objects.specs.declared.cell.Cell.{Cell}
use Rattle.ps_objects.specs.declared.key.Key.{Key}
use Rattle.ps_objects.specs.declared.key.Key.TheVariants as key
use Rattle.ps_objects.specs.declared.object.Kind.{Kind}
use Rattle.ps_objects.specs.declared.object.Kind.TheVariants as kind
use Rattle.ps_objects.specs.declared.object.Object.{Object}
use Rattle.ps_objects.specs.declared.objects.Interval.{Interval}
use Rattle.ps_objects.specs.declared.place.Value.TheVariants as value
use Rattle.ps_objects.specs.Operands.{needed, procedure_at, writable_at}
use Rattle.ps_kinds.specs.declared.state.State.{State}
use Rattle.ps_memory.specs.Memory.{Memory}
use Rattle.ps_memory.specs.Tree.{Change, Application, done, restores, fail, look, ask, puts}
use Rattle.ps_operator.specs.Tree.{Ask, read, look_then, found}
use Rattle.ps_operator.specs.Budgets.{storable}
use Rattle.ps_operator.specs.Keys.{find}
use Rattle.ps_operator.specs.Looks.{item_place, look_item}
use Rattle.ps_operator.specs.Registers.{ops, quiet}
use Rattle.ps_operator.specs.Standing.{is_array}
use Rattle.object_ops.specs.declared.binding.Binder.{Binder}
use Rattle.object_ops.specs.declared.binding.Bound.{Bound}
use Rattle.object_ops.specs.declared.binding.Item.{Item}
use Rattle.object_ops.specs.declared.binding.Item.TheVariants as item
use Rattle.object_ops.specs.declared.binding.Part.{Part}
use Rattle.object_ops.specs.declared.binding.TheConstants.{STEPS}

-- ---- the operator that a name finds

-- what a tree finds, or none where it fails
unfoldable pub tried : {A : Type 0} → Application A → Application (Option A)
tried (done ws x) = found (Some x)
tried (restores r ws x) = found (Some x)
tried (fail e) = found None
tried (look l f) = look l (λ v. tried (f v))
tried (ask c f) = ask c (λ sh. tried (f sh))

-- an object, if it is an operator
abbrev pub if_operator : Object → Kind → Option Object
if_operator x (kind.Operator op) = Some x
if_operator x _ = None

-- the same of what was found
abbrev pub operator_in : Option Object → Option Object
operator_in None = None
operator_in (Some x) = if_operator x x.kind

-- the value of a name, if it has one and this is an operator
abbrev pub operator_named : List Cell → Key → Application (Option Object)
operator_named ds key = look_then (tried (find ds key)) (λ x. found (operator_in x))

-- ---- the walk

-- the parts of arrays that are still to be looked at, the innermost first; where the arrays that were met begin, in their
-- order; and what is to be stored, the last first
pub record Walk : Type 0 where
  pub parts : List Part
  pub met : List Interval
  pub stores : List Bound

-- the same as the code has it
abbrev pub seen : Binder → Walk
seen b = record { parts = b.parts; met = b.met.keys; stores = b.stores }

-- an array from its first item on
abbrev pub whole : Interval → Part
whole a = record { array = a; at = 0 }

-- what is left behind its first item
abbrev pub after : Part → Part
after p = record { array = p.array; at = p.at + 1 }

-- where an array begins, as an interval of no length
abbrev pub beginning : Interval → Interval
beginning a = record { cell = a.cell; start = a.start; len = 0 }

-- the order of intervals
abbrev pub interval_cmp : Interval → Interval → Ordering
interval_cmp = interval_order.ghosts.cmp

-- an array that begins there was met
abbrev pub was_met : List Interval → Interval → Bool
was_met met b = list_any (is_at (interval_cmp b)) met

-- an array of which nothing was looked at, and the walk that begins with it
abbrev pub begun : Interval → Walk
begun a = record { parts = whole a ∷ []; met = insert_key interval_cmp [] (beginning a); stores = [] }

-- an executable array with unlimited access is gone through, where it may lie in the cell that it is an item of
abbrev pub inner : Cell → Kind → Interval → Access → Item
inner c k a Unlimited = elim (storable c k) [ Ok u ↦ item.Inner a | Err e ↦ item.Other ]
inner c k a _ = item.Other

-- an executable object as an item
abbrev pub executable_item : Cell → Kind → Access → Item
executable_item c (kind.Name n) right = item.Name n
executable_item c (kind.Array a packed) right = inner c (kind.Array a packed) a right
executable_item c _ right = item.Other

-- what an item of an array in this cell is to `bind`
abbrev pub item_of : Cell → Object → Item
item_of c x = if x.exec then executable_item c x.kind x.access else item.Other

-- an operator is to be stored in the place of the name that found it
abbrev pub with_operator : Part → Option Object → Walk → Walk
with_operator p None w = w
with_operator p (Some x) w = record w { stores = record { part = p; object = x } ∷ w.stores }

-- an inner array becomes read-only, and is gone through where it is met first
abbrev pub goes_down : Part → Object → Interval → Walk → Walk
goes_down p x a w =
    record {
      parts = if was_met w.met (beginning a) then w.parts else whole a ∷ w.parts;
      met = insert_key interval_cmp w.met (beginning a);
      stores = record { part = p; object = record x { access = ReadOnly } } ∷ w.stores;
    }

-- what comes of an item
abbrev pub binds : List Cell → Part → Object → Item → Walk → Application Walk
binds ds p x (item.Name n) w = look_then (operator_named ds (key.Name n)) (λ o. found (with_operator p o w))
binds ds p x (item.Inner a) w = found (goes_down p x a w)
binds ds p x item.Other w = found w

-- one item is looked at; the rest of its array comes after what it leads to
abbrev pub passes : List Cell → Part → Walk → Application Walk
passes ds p w =
    look_item p.array p.at (λ x.
    binds ds p x (item_of p.array.cell x) (record w { parts = after p ∷ w.parts }))

-- one step: an item, or the end of an array
abbrev pub step : List Cell → Part → Walk → Application Walk
step ds p w = if nat_lt p.at p.array.len then passes ds p w else found w

-- a step, where something is left, and then the others
abbrev pub goes_on : List Cell → (Walk → Application (List Bound)) → Walk → List Part → Application (List Bound)
goes_on ds k w [] = found w.stores
goes_on ds k w (p ∷ ps) = look_then (step ds p (record w { parts = ps })) k

-- at most so many steps, until nothing is left; what is to be stored, the last first
unfoldable pub walk : ℕ → List Cell → Walk → Application (List Bound)
walk zero ds w = found w.stores
walk (suc n) ds w = goes_on ds (walk n ds) w w.parts

-- the stores, in the order of the list
abbrev pub bound_stores : List Bound → List Change
bound_stores [] = []
bound_stores (b ∷ bs) = puts (item_place b.part.array b.part.at) (value.Object b.object) ∷ bound_stores bs

-- p bind p: executable names whose value is an operator become it, in inner procedures too
abbrev pub bind : State → Ask
bind s =
    read (needed 1 (ops s)) (λ _.
    read (procedure_at 0 (ops s)) (λ a.
    read (writable_at 0 (ops s)) (λ _.
    look_then (walk STEPS s.regs.dicts (begun a)) (λ bs.
    done (bound_stores bs) (quiet s)))))

-- ---- what stands

-- the array of each part stands
abbrev pub parts_stand : Memory → List Part → Bool
parts_stand M [] = true
parts_stand M (p ∷ ps) = is_array M p.array && parts_stand M ps

-- each place at which is stored stands
abbrev pub stores_stand : Memory → List Bound → Bool
stores_stand M [] = true
stores_stand M (b ∷ bs) = (is_array M b.part.array && nat_lt b.part.at b.part.array.len) && stores_stand M bs

-- all of them
abbrev pub stands : Memory → Walk → Bool
stands M w = parts_stand M w.parts && stores_stand M w.stores
