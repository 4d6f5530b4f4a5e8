-- Restoring a save (section 3.7 of the language manual: memory management).
use Rattle.std.specs.Prelude.{◌≡◌, ℕ, ◌+◌, ◌<◌, Bool, false, cond, ◌&&◌, ◌||◌, nat_eq, if◌then◌else◌, List, [], ◌∷◌, slice_get, drop, length, Some, Result, Ok, Err}
use Rattle.ps_names.specs.declared.error_name.ErrorName.{ErrorName}
use Rattle.ps_names.specs.declared.error_name.ErrorName.TheVariants.{InvalidRestore}
use Rattle.ps_objects.specs.declared.cell.Cell.{Cell}
use Rattle.ps_objects.specs.declared.cell.SaveName.{SaveName}
use Rattle.ps_objects.specs.declared.cell.Space.TheVariants.{Local}
use Rattle.ps_objects.specs.declared.object.Object.{Object}
use Rattle.ps_objects.specs.Operands.{needed, save_at}
use Rattle.ps_kinds.specs.declared.frame.Frame.{Frame}
use Rattle.ps_kinds.specs.declared.frame.Frame.TheVariants as frame
use Rattle.ps_kinds.specs.declared.graphics.GState.{GState}
use Rattle.ps_kinds.specs.declared.regs.SaveMark.{SaveMark}
use Rattle.ps_kinds.specs.declared.show.ShowPhase.{ShowPhase}
use Rattle.ps_kinds.specs.declared.show.ShowPhase.TheVariants as phase
use Rattle.ps_kinds.specs.declared.state.State.{State}
use Rattle.ps_memory.specs.Memory.{newer, same_save}
use Rattle.ps_memory.specs.Tree.{Change, restores, wipes}
use Rattle.ps_operator.specs.Newer.{object_newer, frame_newer, marks_before}
use Rattle.ps_operator.specs.Tree.{Ask, read}
use Rattle.ps_operator.specs.Registers.{ops, quiet, any_of}

-- ---- the three tests

-- the mark of an open save: invalidrestore where no save of this name is open
abbrev pub open_mark : SaveName → List SaveMark → Result SaveMark ErrorName
open_mark q [] = Err InvalidRestore
open_mark q (m ∷ ms) = cond (same_save q m.name) (Ok m) (open_mark q ms)

-- an object that stays, a dictionary on the stack, or an object that a frame keeps, is newer
abbrev pub any_newer : SaveName → List Object → List Cell → List Frame → Bool
any_newer q xs ds fs =
    any_of (object_newer q) xs || any_of (λ d. newer d q) ds || any_of (frame_newer q) fs

-- a glyph began after the save: a local cell that was made then would be newer
abbrev pub phase_newer : ℕ → SaveName → ShowPhase → Bool
phase_newer section q (phase.Running g) =
    newer (record { section = section; count = g.began; space = Local }) q
phase_newer section q _ = false

-- the same of a frame
abbrev pub glyph_newer : ℕ → SaveName → Frame → Bool
glyph_newer section q (frame.Show r) = phase_newer section q r.phase
glyph_newer section q _ = false

-- what is so bars the restore: invalidrestore
abbrev pub unless : Bool → Result (Unit {0}) ErrorName
unless barred = if barred then Err InvalidRestore else Ok tt

-- ---- what is restored

-- blank paper where the page's size changes; no operator's proof opens this
unfoldable pub size_changes : GState → GState → List Change
size_changes new old =
    if nat_eq new.wide old.wide && nat_eq new.high old.high
    then [] else wipes new.wide new.high ∷ []

-- the mark's graphics state, stack and modes, and the saves that were opened before it
abbrev pub restored : SaveName → SaveMark → State → State
restored q m s = record s {
  regs = record {
    operands = drop 1 (ops s);
    dicts = s.regs.dicts;
    state = m.state;
    states = m.states;
    saves = marks_before q s.regs.saves;
    global = m.global;
    packing = m.packing;
  };
}

-- v restore
abbrev pub restore : State → Ask
restore s =
    read (needed 1 (ops s)) (λ _.
    read (save_at 0 (ops s)) (λ q.
    read (open_mark q s.regs.saves) (λ m.
    read (unless (any_newer q (drop 1 (ops s)) s.regs.dicts s.frames)) (λ _.
    read (unless (any_of (glyph_newer s.section q) s.frames)) (λ _.
    restores q (size_changes m.state s.regs.state) (quiet (restored q m s)))))))

-- ---- where the mark stands

-- the mark of an open save is so deep among the marks, and those behind it are of the saves that were opened before
pub record IsMarkAt (q : SaveName) (ms : List SaveMark) (n : ℕ) : Type 0 where
  pub within : n < length ms
  pub found : (m : SaveMark) → slice_get ms n ≡ Some m → open_mark q ms ≡ Ok m
  pub behind : drop (n + 1) ms ≡ marks_before q ms
