-- A page that begins when a job starts, and the operands that it may have.
use Rattle.std.specs.Prelude.{ℕ, ◌+◌, Bool, true, false, not, ◌&&◌, ◌||◌, nat_eq, nat_le, List, [], ◌∷◌}
use Rattle.ps_objects.specs.declared.cell.Cell.{Cell}
use Rattle.ps_objects.specs.declared.object.Kind.{Kind}
use Rattle.ps_objects.specs.declared.object.Kind.TheVariants as kind
use Rattle.ps_objects.specs.declared.object.Object.{Object}
use Rattle.ps_objects.specs.declared.section.SectionKind.TheVariants.{Page}
use Rattle.ps_objects.specs.declared.settings.Settings.{Settings}
use Rattle.ps_kinds.specs.declared.state.State.{State}
use Rattle.ps_memory.specs.Memory.{is_global}
use Rattle.ps_meaning.specs.Start.{start_registers}
use Rattle.ps_execution.specs.Section.{fresh_state}

-- a local cell of the start with this count
abbrev pub is_start_cell : ℕ → Cell → Bool
is_start_cell n c = nat_eq c.section 0 && nat_eq c.count n && not (is_global c)

-- what an object names stands at the start: a part of the version string, the empty dash array, a local dictionary, or nothing
abbrev pub stands : Kind → Bool
stands (kind.Str a) =
    is_start_cell 8 a.cell && nat_le a.start 8 && nat_le a.len 8 && nat_le (a.start + a.len) 8
stands (kind.Array a packed) = is_start_cell 10 a.cell && nat_eq a.start 0 && nat_eq a.len 0
stands (kind.Dict c) = is_start_cell 2 c || is_start_cell 3 c
stands _ = true

-- the same of each operand
abbrev pub all_stand : List Object → Bool
all_stand [] = true
all_stand (x ∷ xs) = stands x.kind && all_stand xs

-- 72 dots an inch, and paper of 16 by 16 pixels
abbrev pub page_settings : Settings
page_settings = record { dpi = 72; width = 16; height = 16; keep = false }

-- a page that begins on the start memory with these operands
abbrev pub begun : List Object → State
begun xs =
    fresh_state page_settings 0 3 Page (record (start_registers page_settings) { operands = xs })
