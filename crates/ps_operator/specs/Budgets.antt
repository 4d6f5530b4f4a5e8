-- Refusals by limits, budgets and rights.
use Rattle.std.specs.Prelude.{ℕ, ◌+◌, Bool, false, not, ◌&&◌, ◌||◌, nat_lt, nat_eq, List, length, if◌then◌else◌, Option, Some, None, Result, Ok, Err}
use Rattle.ps_objects.specs.declared.cell.Cell.{Cell}
use Rattle.ps_names.specs.declared.error_name.ErrorName.{ErrorName}
use Rattle.ps_names.specs.declared.error_name.ErrorName.TheVariants.{InvalidAccess, LimitCheck, VmError}
use Rattle.ps_objects.specs.declared.object.Kind.{Kind}
use Rattle.ps_objects.specs.declared.section.SectionKind.{SectionKind}
use Rattle.ps_kinds.specs.declared.graphics.Layer.{Layer}
use Rattle.ps_objects.specs.Object.{cell_named}
use Rattle.ps_memory.specs.Memory.{is_global}
pub use Rattle.ps_kinds.specs.Frames.{frames_room}
use Rattle.ps_meaning.specs.Budgets.{unit_budget, message_budget, show_budget}

-- n more units
abbrev pub unit_room : SectionKind → ℕ → ℕ → Result (Unit {0}) ErrorName
unit_room kind units n = if nat_lt (unit_budget kind) (units + n) then Err VmError else Ok tt

-- n more bytes of messages
abbrev pub message_room : SectionKind → ℕ → ℕ → Result (Unit {0}) ErrorName
message_room kind said n = if nat_lt (message_budget kind) (said + n) then Err LimitCheck else Ok tt

-- one more page
abbrev pub show_room : SectionKind → ℕ → Result (Unit {0}) ErrorName
show_room kind shows = if nat_lt shows (show_budget kind) then Ok tt else Err LimitCheck

-- one more graphics state
abbrev pub layer_room : List Layer → Result (Unit {0}) ErrorName
layer_room layers = if nat_lt (length layers) 64 then Ok tt else Err LimitCheck

-- ---- what may be stored where

-- a cell that a global one may not name
abbrev pub is_local : Option Cell → Bool
is_local None = false
is_local (Some c) = not (is_global c)

-- the system dictionary and the font directories, in which no program stores
abbrev pub is_barred : Cell → Bool
is_barred c = nat_eq c.section 0 && (nat_eq c.count 0 || nat_eq c.count 6 || nat_eq c.count 7)

-- an object in a cell: no local one in a global cell
abbrev pub storable : Cell → Kind → Result (Unit {0}) ErrorName
storable c k = if is_global c && is_local (cell_named k) then Err InvalidAccess else Ok tt

-- an object under a key in a dictionary
abbrev pub storable_entry : Cell → Option Cell → Kind → Result (Unit {0}) ErrorName
storable_entry d key k =
    if is_barred d || (is_global d && (is_local key || is_local (cell_named k)))
    then Err InvalidAccess else Ok tt
