-- What names a local cell that is newer than a save, and the marks of older saves.
use Rattle.std.specs.Prelude.{Bool, false, ◌||◌, cond, List, [], ◌∷◌, Option, Some, None}
use Rattle.ps_objects.specs.Key.{cell_of_key}
use Rattle.ps_objects.specs.Object.{cell_named}
use Rattle.ps_objects.specs.declared.cell.Cell.{Cell}
use Rattle.ps_objects.specs.declared.cell.SaveName.{SaveName}
use Rattle.ps_objects.specs.declared.object.Object.{Object}
use Rattle.ps_kinds.specs.declared.frame.Frame.{Frame}
use Rattle.ps_kinds.specs.declared.frame.Frame.TheVariants as frame
use Rattle.ps_kinds.specs.declared.frame.Pair.{Pair}
use Rattle.ps_kinds.specs.declared.regs.SaveMark.{SaveMark}
use Rattle.ps_kinds.specs.declared.show.ShowForm.{ShowForm}
use Rattle.ps_kinds.specs.declared.show.ShowForm.TheVariants as form
use Rattle.ps_memory.specs.Memory.{newer, same_save}
use Rattle.ps_operator.specs.Registers.{any_of}

-- a cell, where one is named
abbrev pub cell_newer : SaveName → Option Cell → Bool
cell_newer q None = false
cell_newer q (Some c) = newer c q

-- the cell that an object names
abbrev pub object_newer : SaveName → Object → Bool
object_newer q x = cell_newer q (cell_named x.kind)

-- the key or the value of a pair
abbrev pub pair_newer : SaveName → Pair → Bool
pair_newer q p = cell_newer q (cell_of_key p.key) || object_newer q p.value

-- the procedure of a show
abbrev pub form_newer : SaveName → ShowForm → Bool
form_newer q (form.Kshow p) = object_newer q p
form_newer q _ = false

-- one of the objects that a frame keeps
abbrev pub frame_newer : SaveName → Frame → Bool
frame_newer q (frame.Proc b at) = object_newer q b
frame_newer q (frame.Text s bs at) = object_newer q s
frame_newer q (frame.For b n i l w) = object_newer q b
frame_newer q (frame.Repeat b l) = object_newer q b
frame_newer q (frame.Loop b) = object_newer q b
frame_newer q (frame.Items a at b) = object_newer q a || object_newer q b
frame_newer q (frame.Bytes s at b) = object_newer q s || object_newer q b
frame_newer q (frame.Pairs ps at b) = any_of (pair_newer q) ps || object_newer q b
frame_newer q frame.Stopped = false
frame_newer q (frame.Show r) = object_newer q r.string || form_newer q r.form
frame_newer q (frame.Image r) = object_newer q r.procedure
frame_newer q (frame.Walk w) =
    object_newer q w.move_to || object_newer q w.line_to
    || object_newer q w.curve_to || object_newer q w.close_path

-- the marks of the saves that were opened before this one
abbrev pub marks_before : SaveName → List SaveMark → List SaveMark
marks_before q [] = []
marks_before q (m ∷ ms) = cond (same_save q m.name) ms (marks_before q ms)
