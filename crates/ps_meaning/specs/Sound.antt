-- Sound memories, and the lawful trees that keep them sound.
pub use Rattle.ps_meaning.specs.World.{Size, size_of, World}
pub use Rattle.ps_meaning.specs.SoundMemory.{StartCell, at_start, start_cells, named_at_start, StartStands, IsUnique, StringFits, without_newer, SoundCopy, SoundKept, SoundMemory}
pub use Rattle.ps_meaning.specs.Lawful.{IsAnswer, with_cell, made, new_size, resized, saved_at, has_name, names_before, restored_to, IsNew, IsNewSave, Lawful, StaysKin, Kept, SoundnessLaw}
