-- What recording an error needs of a sound state.
use Rattle.std.proofs.Common.{◌≡◌, ℕ, true, false, ◌&&◌, ap, ◌∙◌}
use Rattle.ps_kinds.specs.declared.state.State.{State}
use Rattle.ps_memory.specs.Memory.{Memory, shape_at}
use Rattle.ps_meaning.specs.Ready.{Ready}
use Rattle.ps_meaning.specs.Start.{error_record}
use Rattle.vm_mem.specs.Conditions.{MayMake}
use Rattle.ps_operator.specs.Standing.{is_dict, is_dict_shape}
use Rattle.ps_operator.proofs.Naming.{after_free}
use Rattle.ps_operator.proofs.Standing.{page_stands}
use Rattle.error_ops.specs.Recording.{local_cell}

-- the mode doesn't matter to a sound state
abbrev in_local : State → State
in_local s = record s { regs = record s.regs { global = false } }

still_ready : (s : State) (M : Memory) → Ready s M → Ready (in_local s) M
still_ready s M r = record {
  state = record {
    registers = record { operands = r.state.registers.operands; dicts = r.state.registers.dicts; bottom = r.state.registers.bottom; state = r.state.registers.state; states = r.state.registers.states; marks = r.state.registers.marks; size = r.state.registers.size };
    frames = r.state.frames;
    ahead = r.state.ahead;
    budget = record { turns = r.state.budget.turns; units = r.state.budget.units; shows = r.state.budget.shows; said = r.state.budget.said };
    section = r.state.section;
  };
  memory = r.memory;
  count = r.count;
}

pub local_free : (s : State) (M : Memory) (n : ℕ) → Ready s M → MayMake M (local_cell s n)
local_free s M n r = after_free (in_local s) M (still_ready s M r) n

pub record_stands : (s : State) (M : Memory) → Ready s M → is_dict M error_record ≡ true
unfolding is_dict
record_stands s M r = ap (λ b. b && is_dict_shape (shape_at M error_record)) (page_stands s M r) ∙ ap is_dict_shape (r.memory.shapes error_record ∙ r.memory.start.1.1.1.1.0)
