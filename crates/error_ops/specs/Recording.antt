-- The default entries of errors: what they record, and that they stop.
use Rattle.std.specs.Prelude.{◌≡◌, ℕ, ◌+◌, Bool, true, false, nat_le, List, [], ◌∷◌, ◌++◌, codes, drop, length, map, reverse}
use Rattle.ps_names.specs.ErrorName.{bytes_of}
use Rattle.ps_names.specs.declared.error_name.ErrorName.{ErrorName}
use Rattle.ps_objects.specs.Operands.{needed, object_at}
use Rattle.ps_objects.specs.declared.cell.Cell.{Cell}
use Rattle.ps_objects.specs.declared.key.Key.TheVariants as key
use Rattle.ps_objects.specs.declared.object.Kind.TheVariants as kind
use Rattle.ps_objects.specs.declared.object.Object.{Object}
use Rattle.ps_objects.specs.declared.objects.Interval.{Interval}
use Rattle.ps_objects.specs.declared.place.Loc.TheVariants as loc
use Rattle.ps_objects.specs.declared.place.Shape.TheVariants as shape
use Rattle.ps_objects.specs.declared.place.Value.TheVariants as value
use Rattle.ps_kinds.specs.declared.act.Act.TheVariants as act
use Rattle.ps_kinds.specs.declared.state.State.{State}
use Rattle.ps_memory.specs.Memory.{Memory}
use Rattle.ps_memory.specs.Tree.{Change, puts, makes, done}
use Rattle.ps_meaning.specs.Budgets.{unit_budget}
use Rattle.ps_meaning.specs.Start.{error_record}
use Rattle.ps_operator.specs.Making.{cell_named}
use Rattle.ps_operator.specs.Registers.{literal, ops, spent, with_ops}
use Rattle.ps_operator.specs.Standing.{is_dict}
use Rattle.ps_operator.specs.Storing.{item_stores}
use Rattle.ps_operator.specs.Tree.{Ask, read}

-- the dictionaries of a stack as objects
abbrev pub dict_objects : List Cell → List Object
dict_objects = map (λ d. literal (kind.Dict d))

-- a new local cell, after n others
abbrev pub local_cell : State → ℕ → Cell
local_cell s n = cell_named s.section (s.count + n) false

-- a whole array of so many items
abbrev pub array_for : Cell → ℕ → Interval
array_for c n = record { cell = c; start = 0; len = n }

-- a stack's objects are stored in its array, the bottom first
abbrev pub stack_stores : Interval → List Object → List Change
stack_stores a xs = item_stores a 0 (reverse xs)

-- two arrays are made, then filled with the operands and the dictionaries, which are given the newest first
unfoldable pub stacks_told : Cell → Cell → List Object → List Cell → List Change
stacks_told c d xs ds =
    makes c (shape.Array (length xs)) ∷ makes d (shape.Array (length ds))
    ∷ stack_stores (array_for c (length xs)) xs
    ++ stack_stores (array_for d (length ds)) (dict_objects ds)

-- an entry in the record of the last error
abbrev pub told_under : List ℕ → Object → Change
told_under name x = puts (loc.Entry error_record (key.Name name)) (value.Object x)

-- what is told of an error: that it is new, its name, the object that was executed, and the stacks
unfoldable pub error_told : ErrorName → Object → Interval → Interval → List Change
error_told e command operands dicts =
    told_under (codes "newerror") (literal (kind.Boolean true))
    ∷ told_under (codes "errorname") (literal (kind.Name (bytes_of e)))
    ∷ told_under (codes "command") command
    ∷ told_under (codes "ostack") (literal (kind.Array operands false))
    ∷ told_under (codes "dstack") (literal (kind.Array dicts false)) ∷ []

-- all changes for an error with these stacks
unfoldable pub recorded : ErrorName → Object → Cell → Cell → List Object → List Cell → List Change
recorded e command c d xs ds =
    stacks_told c d xs ds
    ++ error_told e command (array_for c (length xs)) (array_for d (length ds))

-- records these stacks at the cost of n units, takes the command off the stack, and stops
abbrev pub stops_with : ErrorName → State → Object → List Object → List Cell → ℕ → Ask
stops_with e s command xs ds n =
    done (recorded e command (local_cell s 0) (local_cell s 1) xs ds)
    (record { state = spent (with_ops s (drop 1 (ops s))) n; frames = []; act = act.Stop })

-- how many items the two stacks have, without the command
abbrev pub stack_items : State → ℕ
stack_items s = length (drop 1 (ops s)) + length s.regs.dicts

-- so many more units are within the section's budget
abbrev pub has_units : State → ℕ → Bool
has_units s n = nat_le (s.units + n) (unit_budget s.kind)

-- the stacks are recorded where their items are within the section's units, else two empty ones
abbrev pub stops_within : Bool → ErrorName → State → Object → Ask
stops_within true e s command =
    stops_with e s command (drop 1 (ops s)) s.regs.dicts (stack_items s)
stops_within false e s command = stops_with e s command [] [] 0

-- what is a dictionary stays one
abbrev pub KeepsDicts : Memory → Memory → Type 0
KeepsDicts M N = (c : Cell) → is_dict M c ≡ true → is_dict N c ≡ true

-- the newest operand is the object that was executed
abbrev pub records : ErrorName → State → Ask
records e s =
    read (needed 1 (ops s)) (λ _.
    read (object_at 0 (ops s)) (λ command.
    stops_within (has_units s (stack_items s)) e s command))
