-- What is asked and found where a dictionary stands.
use Rattle.std.proofs.Common.{◌≡◌, ◌≢◌, true, false, Option, Some, None, sym, ap, ◌∙◌, true≢false}
use Rattle.std.specs.Cmp.{second_so}
use Rattle.ps_objects.specs.declared.cell.Cell.{Cell}
use Rattle.ps_memory.specs.Memory.{Memory, shape_at}
use Rattle.vm_mem.specs.Conditions.{page_is_here, MayAsk}
use Rattle.vm_mem.proofs.Conditions.{may_ask}
use Rattle.ps_operator.specs.Standing.{is_dict_shape, is_dict}
use Rattle.ps_operator.proofs.Looked.{dict_page}

shape_there : (M : Memory) (d : Cell) → is_dict M d ≡ true → shape_at M d ≢ None
unfolding is_dict
shape_there M d h e = true≢false (sym (second_so (page_is_here M) (is_dict_shape (shape_at M d)) h) ∙ ap is_dict_shape e)

pub dict_may_ask : (M : Memory) (d : Cell) → is_dict M d ≡ true → MayAsk M d
dict_may_ask M d h = may_ask M d (dict_page M d h) (shape_there M d h)
