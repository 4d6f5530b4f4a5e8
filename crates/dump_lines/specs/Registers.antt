-- The lines of the registers.
use Rattle.std.specs.Prelude.{ℕ, Bool, List, ◌++◌, length, reverse, codes, flat_map, if◌then◌else◌}
use Rattle.std.specs.Fmt.{decimal}
use Rattle.ps_objects.specs.declared.cell.Cell.{Cell}
use Rattle.ps_objects.specs.declared.object.Object.{Object}
use Rattle.ps_kinds.specs.declared.graphics.GState.{GState}
use Rattle.ps_kinds.specs.declared.graphics.Layer.{Layer}
use Rattle.ps_kinds.specs.declared.regs.Regs.{Regs}
use Rattle.ps_kinds.specs.declared.regs.SaveMark.{SaveMark}
use Rattle.dump_lines.specs.Fields.{state_fields}
use Rattle.dump_lines.specs.Objects.{dict_text, object_text, save_text}
use Rattle.dump_lines.specs.Values.{spaced}

-- a stack of objects, the oldest first
unfoldable pub operands_line : List Object → List ℕ
operands_line operands = codes "operands" ++ spaced object_text (reverse operands) ++ codes "\n"

-- the dictionary stack, the oldest first
unfoldable pub dicts_line : List Cell → List ℕ
dicts_line dicts = codes "dicts" ++ spaced dict_text (reverse dicts) ++ codes "\n"

-- the name of an open save
abbrev pub mark_text : SaveMark → List ℕ
mark_text mark = save_text mark.name

-- the open saves, the oldest first
unfoldable pub saves_line : List SaveMark → List ℕ
saves_line saves = codes "saves" ++ spaced mark_text (reverse saves) ++ codes "\n"

-- where composite objects are made
abbrev pub allocation : Bool → List ℕ
allocation global = if global then codes "modes global" else codes "modes local"

-- how procedures are scanned
abbrev pub scanning : Bool → List ℕ
scanning packing = if packing then codes " packed\n" else codes " unpacked\n"

-- the line of the modes
unfoldable pub modes_line : Bool → Bool → List ℕ
modes_line global packing = allocation global ++ scanning packing

-- a graphics state beside the start's
unfoldable pub state_line : GState → List ℕ → GState → List ℕ
state_line o label g = label ++ state_fields g o ++ codes "\n"

-- a base layer is told apart
abbrev pub layer_label : Bool → List ℕ
layer_label base = if base then codes " base" else codes " state"

-- a layer beside the start's state
unfoldable pub layer_line : GState → Layer → List ℕ
layer_line o layer = state_line o (layer_label layer.base) layer.state

-- the depth of the graphics stack
unfoldable pub depth_line : ℕ → List ℕ
depth_line depth = codes "graphics " ++ decimal depth ++ codes "\n"

-- the depth of the graphics stack, the current state, and the layers from the top
unfoldable pub graphics_lines : GState → GState → List Layer → List ℕ
graphics_lines o g layers = depth_line (length layers) ++ state_line o (codes " state") g ++ flat_map (layer_line o) layers

-- the registers beside the start's state
unfoldable pub register_lines : GState → Regs → List ℕ
register_lines o r =
    operands_line r.operands ++ dicts_line r.dicts ++ saves_line r.saves ++ modes_line r.global r.packing ++ graphics_lines o r.state r.states
