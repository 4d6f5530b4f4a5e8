-- The dump.
use Rattle.std.specs.Prelude.{ℕ, List, ◌++◌, codes, flat_map}
use Rattle.ps_objects.specs.declared.place.Loc.TheVariants as loc
use Rattle.ps_objects.specs.declared.settings.Settings.{Settings}
use Rattle.ps_kinds.specs.declared.regs.Regs.{Regs}
use Rattle.ps_memory.specs.Memory.{Memory, value_at}
use Rattle.ps_meaning.specs.Start.{start_memory, start_state}
use Rattle.dump_lines.specs.Registers.{register_lines}
use Rattle.dump_text.specs.Cells.{cell_lines, cells_of}
use Rattle.dump_text.specs.Papers.{paper_line, rand_line}

-- the lines of a memory beside the start's: the state of the random numbers, the paper, and the cells in order
unfoldable pub memory_lines : Memory → Memory → List ℕ
memory_lines S M = rand_line (value_at M loc.Rand) ++ paper_line (value_at M loc.Paper) ++ flat_map (cell_lines S M) (cells_of M)

-- the dump of registers and a memory, of a job with these settings
unfoldable pub dump_of : Settings → Regs → Memory → List ℕ
dump_of s R M = codes "%%[ dump ]%%\n" ++ register_lines (start_state s) R ++ memory_lines (start_memory s) M
