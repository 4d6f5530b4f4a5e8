use Rattle.std.proofs.Common.{ap, ◌∙◌}
use Rattle.std.specs.FinMap.{from_entries}
use Rattle.ps_objects.specs.declared.access.Access.TheVariants.{ReadOnly}
use Rattle.ps_memory.specs.Order.{cell_cmp}
use Rattle.ps_memory.specs.Memory.{dictionary}
use Rattle.vm_start.proofs.StartSteps.{hold_next, system_opened}
use Rattle.vm_start.proofs.start.globals.Goals as goal

pub returns : goal.returns
returns c =
    hold_next _ _ _ _ _ _ c.in_ok-hold-4.ensures (c.in_ok-system_dict.ensures ∙ ap (dictionary 0 ReadOnly) system_opened) (
    hold_next _ _ _ _ _ _ c.in_ok-hold-3.ensures c.empty_dict-2.ensures (
    hold_next _ _ _ _ _ _ c.in_ok-hold-2.ensures c.empty_dict.ensures (
    hold_next _ _ _ _ _ _ c.in_ok-hold.ensures c.in_ok-eight_characters.ensures (
    ap (from_entries {R = cell_cmp}) c.new-cells.ensures.empty))))
