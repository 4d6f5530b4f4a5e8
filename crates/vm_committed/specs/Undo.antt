-- How writes are taken back.
use Rattle.std.specs.Prelude.{◌≡◌, Bool, true, false, ◌&&◌, List, [], ◌∷◌}
use Rattle.std.specs.FinMap.{remove}
use Rattle.ps_objects.specs.declared.cell.Cell.{Cell}
use Rattle.ps_objects.specs.declared.place.Loc.{Loc}
use Rattle.ps_objects.specs.declared.place.Value.{Value}
use Rattle.ps_memory.specs.Memory.{Memory, held, with_part, put_cell, do_store, Action, perform}
use Rattle.vm_content.specs.Back.{content_undone}
use Rattle.vm_content.specs.Content.{slot_in}
use Rattle.vm_journal.specs.Part.{is_empty}
use Rattle.vm_committed.specs.Changes.{with_byte}
use Rattle.vm_committed.specs.Whole.{page_of}
use Rattle.vm_committed.specs.declared.undo.Undo.{Undo}
use Rattle.vm_committed.specs.declared.undo.Undo.TheVariants.{Nothing, Made, Held, Byte, Rand, Laid}
use Rattle.vm_mem.specs.declared.writes.Write.{Write}
use Rattle.vm_mem.specs.declared.writes.Write.TheVariants.{Save}

-- a memory as it was before a write
abbrev pub write_undone : Undo → Memory → Memory
write_undone Nothing M = M
write_undone (Made c) M = record (with_part M c (λ m. remove m c)) { strings = remove M.strings c }
write_undone (Held c b) M = with_part M c (put_cell c (content_undone b))
write_undone (Byte c i n) M = record M { strings = with_byte c i n M.strings }
write_undone (Rand n) M = record M { rand = n }
write_undone (Laid p) M = record M { page = page_of p }

-- an action on a memory is taken back
abbrev pub TakesBack : Undo → Action → Memory → Type 0
TakesBack u w M = write_undone u (perform w M) ≡ M

-- a store at a place of a cell is taken back
abbrev pub TakesHeldBack : Undo → Cell → Loc → Value → Memory → Type 0
TakesHeldBack u c l v M = write_undone u (do_store (held c (slot_in l)) v M) ≡ M

-- the newest first
abbrev pub writes_undone : List Undo → Memory → Memory
writes_undone [] M = M
writes_undone (u ∷ us) M = writes_undone us (write_undone u M)

-- the write opens no save
abbrev pub opens_none : Write → Bool
opens_none (Save s) = false
opens_none _ = true

-- no write opens a save
abbrev pub none_opens : List Write → Bool
none_opens [] = true
none_opens (w ∷ ws) = opens_none w && none_opens ws

-- no save is open, and none will be
abbrev pub stays_closed : Memory → List Write → Bool
stays_closed M ws = is_empty M.kept && none_opens ws
