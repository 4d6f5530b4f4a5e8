-- Opening a save (section 3.7 of the language manual: memory management).
use Rattle.std.specs.Prelude.{true, [], ◌∷◌}
use Rattle.ps_objects.specs.Operands.{room_for}
use Rattle.ps_objects.specs.declared.object.Kind.TheVariants as kind
use Rattle.ps_kinds.specs.declared.regs.SaveMark.{SaveMark}
use Rattle.ps_kinds.specs.declared.state.State.{State}
use Rattle.ps_memory.specs.Tree.{done, opens}
use Rattle.ps_operator.specs.Budgets.{layer_room}
use Rattle.ps_operator.specs.Making.{next_save}
use Rattle.ps_operator.specs.Tree.{Ask, read}
use Rattle.ps_operator.specs.Registers.{ops, literal, quiet}

-- the graphics state, the graphics stack and the modes as they are, under the name of the next save
abbrev pub mark_of : State → SaveMark
mark_of s = record {
  name = next_save s;
  state = s.regs.state;
  states = s.regs.states;
  global = s.regs.global;
  packing = s.regs.packing;
}

-- the save lies on the operands, its mark on those of the open saves, and a base layer on the graphics stack
abbrev pub saved : State → State
saved s = record s {
  regs = record s.regs {
    operands = literal (kind.Save (next_save s)) ∷ ops s;
    states = record { state = s.regs.state; base = true } ∷ s.regs.states;
    saves = mark_of s ∷ s.regs.saves;
  };
}

-- save v
abbrev pub save : State → Ask
save s =
    read (layer_room s.regs.states) (λ _.
    read (room_for 1 (ops s)) (λ _.
    done (opens (next_save s) ∷ []) (quiet (saved s))))
