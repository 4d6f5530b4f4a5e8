-- The dictionary stack, and what is defined and sought there (section 8.2 of the language manual).
use Rattle.std.specs.Prelude.{ℕ, ◌-◌, Bool, true, false, ◌&&◌, nat_lt, if◌then◌else◌, List, [], ◌∷◌}
use Rattle.std.specs.Prelude.{drop, length, map, reverse, Option, Some, None, Result, Ok, Err}
use Rattle.ps_names.specs.declared.error_name.ErrorName.{ErrorName}
use Rattle.ps_names.specs.declared.error_name.ErrorName.TheVariants.{DictStackUnderflow}
use Rattle.ps_names.specs.declared.error_name.ErrorName.TheVariants.{InvalidAccess, RangeCheck}
use Rattle.ps_objects.specs.declared.cell.Cell.{Cell}
use Rattle.ps_objects.specs.declared.key.Key.{Key}
use Rattle.ps_objects.specs.declared.object.Object.{Object}
use Rattle.ps_objects.specs.declared.object.Kind.{Kind}
use Rattle.ps_objects.specs.declared.object.Kind.TheVariants as kind
use Rattle.ps_objects.specs.declared.objects.Interval.{Interval}
use Rattle.ps_objects.specs.declared.place.Loc.TheVariants as loc
use Rattle.ps_objects.specs.declared.place.Value.TheVariants as value
use Rattle.ps_objects.specs.Access.{read_right, write_right}
use Rattle.ps_objects.specs.Key.{key_form_at}
use Rattle.ps_objects.specs.Operands.{needed, room_for, object_at, dict_at, array_at}
use Rattle.ps_objects.specs.Operands.{writable_at, dict_room}
use Rattle.ps_kinds.specs.declared.state.State.{State}
use Rattle.ps_memory.specs.Memory.{Memory, is_global}
use Rattle.ps_memory.specs.Tree.{Application, done, puts}
use Rattle.ps_operator.specs.Tree.{Ask, read, look_then, found}
use Rattle.ps_operator.specs.Budgets.{unit_room, storable_entry, is_local}
use Rattle.ps_operator.specs.Keys.{key_right_at, key_length, key_of, form_cell, find}
use Rattle.ps_operator.specs.Looks.{look_access, look_entry}
use Rattle.ps_operator.specs.Registers.{ops, literal, with_ops, with_dicts, spent, current}
use Rattle.ps_operator.specs.Registers.{quiet, leaves, any_of}
use Rattle.ps_operator.specs.Standing.{is_dict}
use Rattle.ps_operator.specs.Storing.{item_stores}
use Rattle.dict_ops.specs.Entries.{number_told}

-- ---- the stack itself

-- d begin: a dictionary becomes the current one
abbrev pub begin : State → Ask
begin s =
    read (needed 1 (ops s)) (λ _.
    read (dict_at 0 (ops s)) (λ d.
    look_access d (λ a.
    read (read_right a) (λ _.
    read (dict_room s.regs.dicts) (λ _.
    done [] (quiet (with_dicts s (drop 1 (ops s)) (d ∷ s.regs.dicts))))))))

-- the bottom three stay
abbrev pub above_bottom : List Cell → Result (Unit {0}) ErrorName
above_bottom ds = if nat_lt 3 (length ds) then Ok tt else Err DictStackUnderflow

-- end: the current dictionary goes
abbrev pub end : State → Ask
end s =
    read (above_bottom s.regs.dicts) (λ _.
    done [] (quiet (with_dicts s (ops s) (drop 1 s.regs.dicts))))

-- cleardictstack: all go but the bottom three
abbrev pub cleardictstack : State → Ask
cleardictstack s =
    done [] (quiet (with_dicts s (ops s) (drop (length s.regs.dicts - 3) s.regs.dicts)))

-- currentdict d
abbrev pub currentdict : State → Ask
currentdict s =
    read (room_for 1 (ops s)) (λ _.
    leaves s (literal (kind.Dict (current s.regs.dicts)) ∷ ops s))

-- countdictstack i: how many dictionaries there are
abbrev pub countdictstack : State → Ask
countdictstack s =
    read (number_told (length s.regs.dicts)) (λ n.
    read (room_for 1 (ops s)) (λ _.
    leaves s (literal (kind.Integer n) ∷ ops s)))

-- nothing local goes into a global array
abbrev pub stack_storable : Interval → List Cell → Result (Unit {0}) ErrorName
stack_storable a ds =
    if is_global a.cell && any_of (λ d. is_local (Some d)) ds then Err InvalidAccess else Ok tt

-- the array holds as many
abbrev pub holds : Interval → List Cell → Result (Unit {0}) ErrorName
holds a ds = if nat_lt a.len (length ds) then Err RangeCheck else Ok tt

-- the dictionaries as objects, from the bottom up
abbrev pub stack_objects : List Cell → List Object
stack_objects ds = reverse (map (λ d. literal (kind.Dict d)) ds)

-- the front of an array
abbrev pub front : ℕ → Kind → Kind
front n (kind.Array a packed) = kind.Array (record a { len = n }) packed
front n k = k

-- the same as an object, with its attribute and its access
abbrev pub front_of : ℕ → Object → Object
front_of n x = record x { kind = front n x.kind }

-- a dictstack a: the dictionaries fill the front of an array, which is left
abbrev pub dictstack : State → Ask
dictstack s =
    read (needed 1 (ops s)) (λ _.
    read (object_at 0 (ops s)) (λ x.
    read (array_at 0 (ops s)) (λ a.
    read (writable_at 0 (ops s)) (λ _.
    read (stack_storable a s.regs.dicts) (λ _.
    read (holds a s.regs.dicts) (λ _.
    done (item_stores a 0 (stack_objects s.regs.dicts))
    (quiet (with_ops s (front_of (length s.regs.dicts) x ∷ drop 1 (ops s))))))))))

-- ---- what is defined and sought there

-- k x def: the newest operand under a key, in the current dictionary
abbrev pub def : State → Ask
def s =
    read (needed 2 (ops s)) (λ _.
    read (object_at 0 (ops s)) (λ x.
    read (key_form_at 1 (ops s)) (λ form.
    look_access (current s.regs.dicts) (λ a.
    read (write_right a) (λ _.
    read (key_right_at 1 (ops s)) (λ _.
    read (storable_entry (current s.regs.dicts) (form_cell form) x.kind) (λ _.
    read (key_length form) (λ _.
    read (unit_room s.kind s.units 1) (λ _.
    look_then (key_of form) (λ key.
    done (puts (loc.Entry (current s.regs.dicts) key) (value.Object x) ∷ [])
    (quiet (spent (with_ops s (drop 2 (ops s))) 1))))))))))))

-- k load x: the value of a key in the first dictionary that has it
abbrev pub load : State → Ask
load s =
    read (needed 1 (ops s)) (λ _.
    read (key_form_at 0 (ops s)) (λ form.
    read (key_right_at 0 (ops s)) (λ _.
    read (key_length form) (λ _.
    look_then (key_of form) (λ key.
    look_then (find s.regs.dicts key) (λ x.
    leaves s (x ∷ drop 1 (ops s))))))))

-- the dictionary, where an entry was found, or else what the rest holds
abbrev pub holder_or : Cell → Application (Option Cell) → Option Object → Application (Option Cell)
holder_or d rest (Some x) = found (Some d)
holder_or d rest None = rest

-- the first dictionary that has a key, the newest first
abbrev pub holder : List Cell → Key → Application (Option Cell)
holder [] key = found None
holder (d ∷ ds) key = look_entry d key (holder_or d (holder ds key))

-- it stands, if there is one
abbrev pub holder_stands : Memory → Option Cell → Bool
holder_stands M None = true
holder_stands M (Some d) = is_dict M d

-- the dictionary that has the key, or else the current one
abbrev pub or_current : List Cell → Option Cell → Cell
or_current ds None = current ds
or_current ds (Some d) = d

-- k x store: the newest operand under a key, in the first dictionary that has the key, or else in the current one
abbrev pub store : State → Ask
store s =
    read (needed 2 (ops s)) (λ _.
    read (object_at 0 (ops s)) (λ x.
    read (key_form_at 1 (ops s)) (λ form.
    read (key_right_at 1 (ops s)) (λ _.
    read (key_length form) (λ _.
    look_then (key_of form) (λ key.
    look_then (holder s.regs.dicts key) (λ there.
    look_access (or_current s.regs.dicts there) (λ a.
    read (write_right a) (λ _.
    read (storable_entry (or_current s.regs.dicts there) (form_cell form) x.kind) (λ _.
    read (unit_room s.kind s.units 1) (λ _.
    done (puts (loc.Entry (or_current s.regs.dicts there) key) (value.Object x) ∷ [])
    (quiet (spent (with_ops s (drop 2 (ops s))) 1)))))))))))))

-- a dictionary and true, or false
abbrev pub tells_holder : State → Option Cell → Ask
tells_holder s (Some d) =
    read (room_for 1 (ops s)) (λ _.
    leaves s (literal (kind.Boolean true) ∷ literal (kind.Dict d) ∷ drop 1 (ops s)))
tells_holder s None = leaves s (literal (kind.Boolean false) ∷ drop 1 (ops s))

-- k where d true, or false: the first dictionary that has a key
abbrev pub where_ : State → Ask
where_ s =
    read (needed 1 (ops s)) (λ _.
    read (key_form_at 0 (ops s)) (λ form.
    read (key_right_at 0 (ops s)) (λ _.
    read (key_length form) (λ _.
    look_then (key_of form) (λ key.
    look_then (holder s.regs.dicts key) (tells_holder s))))))
