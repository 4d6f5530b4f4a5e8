-- Steps that read a text.
use Rattle.std.specs.Prelude.{ℕ, List}
use Rattle.ps_objects.specs.declared.object.Object.{Object}
use Rattle.ps_kinds.specs.declared.state.State.{State}
use Rattle.ps_memory.specs.Tree.{Tree, ◌>>=◌}
use Rattle.ps_execution.specs.Execution.{reads}
use Rattle.ps_execution.specs.Gather.{gather}
use Rattle.ps_execution.specs.Machine.{Move, move_text, move_section}
use Rattle.ps_execution.specs.Table.{Program}

-- a string is read further
abbrev pub string_move : Program → Object → List ℕ → ℕ → State → Tree Move
string_move P string bytes place s = reads (gather bytes place s) s >>= move_text P string bytes

-- the section's text is read further
abbrev pub section_move : Program → State → Tree Move
section_move P s = reads (gather P.text s.place s) s >>= move_section P
