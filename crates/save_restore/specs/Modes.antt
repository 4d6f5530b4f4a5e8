-- The mode of new objects, what memory holds, and times.
use Rattle.std.specs.Prelude.{ℕ, pos, ◌%◌, Bool, [], ◌∷◌, drop, length, nat_lt, if◌then◌else◌, Result, Ok, Err}
use Rattle.ps_names.specs.declared.error_name.ErrorName.{ErrorName}
use Rattle.ps_names.specs.declared.error_name.ErrorName.TheVariants.{LimitCheck}
use Rattle.ps_objects.specs.Operands.{needed, room_for, boolean_at, integer_at}
use Rattle.ps_objects.specs.declared.object.Kind.TheVariants as kind
use Rattle.ps_objects.specs.declared.object.Object.{Object}
use Rattle.ps_kinds.specs.declared.state.State.{State}
use Rattle.ps_memory.specs.Tree.{done}
use Rattle.ps_meaning.specs.Budgets.{unit_budget}
use Rattle.ps_operator.specs.Tree.{Ask, read}
use Rattle.ps_operator.specs.Registers.{ops, literal, quiet, leaves}

-- an integer that isn't negative, as an object
abbrev pub integer : ℕ → Object
integer n = literal (kind.Integer (pos n))

-- ---- the mode

-- without the newest operand, and with this mode
abbrev pub with_global : State → Bool → State
with_global s global =
    record s { regs = record s.regs { operands = drop 1 (ops s); global = global } }

-- b setglobal: whether new objects are made in global memory
abbrev pub setglobal : State → Ask
setglobal s =
    read (needed 1 (ops s)) (λ _.
    read (boolean_at 0 (ops s)) (λ global.
    done [] (quiet (with_global s global))))

-- currentglobal b
abbrev pub currentglobal : State → Ask
currentglobal s =
    read (room_for 1 (ops s)) (λ _.
    leaves s (literal (kind.Boolean s.regs.global) ∷ ops s))

-- ---- memory

-- a number of open saves that is told has 31 bits
abbrev pub level_told : ℕ → Result ℕ ErrorName
level_told n = if nat_lt 2147483647 n then Err LimitCheck else Ok n

-- vmstatus i j k: how many saves are open, the units so far, and their budget
abbrev pub vmstatus : State → Ask
vmstatus s =
    read (level_told (length s.regs.saves)) (λ level.
    read (room_for 3 (ops s)) (λ _.
    leaves s (integer (unit_budget s.kind) ∷ integer s.units ∷ integer level ∷ ops s)))

-- i vmreclaim: nothing is done
abbrev pub vmreclaim : State → Ask
vmreclaim s =
    read (needed 1 (ops s)) (λ _.
    read (integer_at 0 (ops s)) (λ _.
    leaves s (drop 1 (ops s))))

-- ---- times

-- realtime i: the lowest 31 bits of the moment
abbrev pub realtime : State → Ask
realtime s =
    read (room_for 1 (ops s)) (λ _.
    leaves s (integer (s.moment % 2147483648) ∷ ops s))

-- usertime i: the turns so far, its own among them
abbrev pub usertime : State → Ask
usertime s =
    read (room_for 1 (ops s)) (λ _.
    leaves s (integer s.turns ∷ ops s))
