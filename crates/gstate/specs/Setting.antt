-- What operators leave that set a part of the graphics state, or tell one.
use Rattle.std.specs.Prelude.{ℕ, [], ◌∷◌, drop}
use Rattle.ps_objects.specs.Operands.{room_for}
use Rattle.ps_objects.specs.declared.object.Kind.{Kind}
use Rattle.ps_kinds.specs.declared.graphics.GState.{GState}
use Rattle.ps_kinds.specs.declared.state.State.{State}
use Rattle.ps_memory.specs.Tree.{done}
use Rattle.ps_operator.specs.Tree.{Ask, read}
use Rattle.ps_operator.specs.Registers.{ops, literal, quiet, leaves}

-- without the newest n operands, and with this graphics state
abbrev pub with_state : State → ℕ → GState → State
with_state s n g = record s { regs = record s.regs { operands = drop n (ops s); state = g } }

-- ends without the newest n operands, and with this graphics state
abbrev pub sets : State → ℕ → GState → Ask
sets s n g = done [] (quiet (with_state s n g))

-- ends with one more operand
abbrev pub tells : Kind → State → Ask
tells k s =
    read (room_for 1 (ops s)) (λ _.
    leaves s (literal k ∷ ops s))
