-- In which field registers differ.
use Rattle.std.specs.Prelude.{Bool, List, if◌then◌else◌, Option, Some, None, reverse}
use Rattle.std.specs.Bool.{beq}
use Rattle.std.specs.Cmp.Lexicographic.{pointwise}
use Rattle.ps_objects.specs.contracts.object.ObjectPartialEq.TheImpl as object
use Rattle.ps_objects.specs.contracts.cell.CellPartialEq.TheImpl as cell
use Rattle.ps_kinds.specs.contracts.graphics.GStatePartialEq.TheImpl as state
use Rattle.ps_kinds.specs.contracts.graphics.LayerPartialEq.TheImpl as layer
use Rattle.ps_kinds.specs.contracts.regs.SaveMarkPartialEq.TheImpl as mark
use Rattle.ps_kinds.specs.declared.regs.Regs.{Regs}
use Rattle.ps_kinds.specs.declared.regs.RegField.{RegField}
use Rattle.ps_kinds.specs.declared.regs.RegField.TheVariants.{Operands, Dicts, State, States, Saves, Global, Packing}

-- the field, where it is not the same, and else what comes later
abbrev pub field_or : Bool → RegField → Option RegField → Option RegField
field_or same field later = if same then later else Some field

-- stacks are compared from the oldest on
abbrev same_stack : {X : Type 0} → (X → X → Bool) → List X → List X → Bool
same_stack same xs ys = pointwise same (reverse xs) (reverse ys)

-- the first field that differs, in the order of the fields
abbrev pub first_difference : Regs → Regs → Option RegField
first_difference a b =
    field_or (same_stack object.eq-value.it a.operands b.operands) Operands
    (field_or (same_stack cell.eq-value.it a.dicts b.dicts) Dicts
    (field_or (state.eq-value.it a.state b.state) State
    (field_or (same_stack layer.eq-value.it a.states b.states) States
    (field_or (same_stack mark.eq-value.it a.saves b.saves) Saves
    (field_or (beq a.global b.global) Global
    (field_or (beq a.packing b.packing) Packing None))))))
