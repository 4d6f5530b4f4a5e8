use Rattle.std.proofs.Common.{ap, ◌∙◌}
use Rattle.std.specs.FinMap.{from_entries}
use Rattle.ps_objects.specs.declared.access.Access.TheVariants.{Unlimited}
use Rattle.ps_memory.specs.Order.{cell_cmp}
use Rattle.ps_memory.specs.Memory.{dictionary}
use Rattle.vm_start.proofs.StartSteps.{hold_next, errors_opened}
use Rattle.vm_start.proofs.start.locals.Goals as goal

pub returns : goal.returns
returns c =
    hold_next _ _ _ _ _ _ c.in_ok-hold-7.ensures c.empty_dict-3.ensures (
    hold_next _ _ _ _ _ _ c.in_ok-hold-6.ensures (c.in_ok-error_dict.ensures ∙ ap (dictionary 0 Unlimited) errors_opened) (
    hold_next _ _ _ _ _ _ c.in_ok-hold-5.ensures c.in_ok-error_record.ensures (
    hold_next _ _ _ _ _ _ c.in_ok-hold-4.ensures c.empty_dict-2.ensures (
    hold_next _ _ _ _ _ _ c.in_ok-hold-3.ensures c.empty_dict.ensures (
    hold_next _ _ _ _ _ _ c.in_ok-hold-2.ensures c.in_ok-eight_characters.ensures (
    hold_next _ _ _ _ _ _ c.in_ok-hold.ensures c.in_ok-no_items.ensures (
    ap (from_entries {R = cell_cmp}) c.new-cells.ensures.empty)))))))
