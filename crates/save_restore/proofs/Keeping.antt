-- Each operator keeps a state that fits: its tree again, with what fits beside each end.
use Rattle.std.proofs.Common.{◌≡◌, ℕ, ◌%◌, Bool, true, false, cond, ◌&&◌, ◌||◌, nat_eq, List, [], ◌∷◌, drop, length, Result, Ok, refl, sym, ◌∙◌, subst, arith}
use Rattle.ps_names.specs.declared.error_name.ErrorName.{ErrorName}
use Rattle.ps_objects.specs.declared.cell.SaveName.{SaveName}
use Rattle.ps_objects.specs.declared.object.Kind.TheVariants as kind
use Rattle.ps_objects.specs.Operands.{needed, room_for, boolean_at, integer_at, save_at}
use Rattle.ps_kinds.specs.declared.graphics.GState.{GState}
use Rattle.ps_kinds.specs.declared.regs.SaveMark.{SaveMark}
use Rattle.ps_kinds.specs.declared.state.State.{State}
use Rattle.ps_memory.specs.Memory.{newer, same_save}
use Rattle.ps_memory.specs.Tree.{Change, restores, wipes}
use Rattle.ps_memory.proofs.Frame.{save_is}
use Rattle.ps_meaning.specs.Answer.{names_taken}
use Rattle.ps_meaning.specs.Budgets.{unit_budget}
use Rattle.ps_meaning.specs.Fits.{Shapes}
use Rattle.ps_meaning.specs.Ready.{Fits}
use Rattle.ps_meaning.specs.Registers.{FitsState, FitsLayers, SoundMarks}
use Rattle.ps_meaning.specs.Sound.{Size, World, without_newer, restored_to}
use Rattle.ps_operator.specs.Budgets.{layer_room}
use Rattle.ps_operator.specs.Lawful.{Leaves, Changes, Keeps, IsLawful}
use Rattle.ps_operator.specs.Making.{next_save}
use Rattle.ps_operator.specs.Newer.{object_newer, frame_newer}
use Rattle.ps_operator.specs.Operators.{AreLawful}
use Rattle.ps_operator.specs.Registers.{ops, literal, quiet, any_of}
use Rattle.ps_operator.proofs.Dropping.{old_objects, old_dicts, old_frames, old_marks_before}
use Rattle.ps_operator.proofs.Ending.{registers_keeps}
use Rattle.ps_operator.proofs.Fitting.{drop_fits}
use Rattle.ps_operator.proofs.Growing.{old_state, old_layers}
use Rattle.ps_operator.proofs.Lawful.{read_keeps, leaves_keeps}
use Rattle.ps_operator.proofs.Running.{◌▹◌, all_lawful}
use Rattle.save_restore.specs.Modes.{integer, level_told, setglobal, currentglobal, vmstatus, vmreclaim, realtime, usertime}
use Rattle.save_restore.specs.Operators.{operators, run}
use Rattle.save_restore.specs.Restoring.{open_mark, any_newer, glyph_newer, unless, size_changes, restored, restore}
use Rattle.save_restore.specs.Saving.{save}
use Rattle.save_restore.proofs.Opening.{mark_named}

-- ---- modes, counts and times

setglobal_keeps : IsLawful setglobal
setglobal_keeps text s W f =
    let r = f.state.registers in
    read_keeps (needed 1 (ops s)) (λ _ _.
    read_keeps (boolean_at 0 (ops s)) (λ global _.
    registers_keeps f (record s.regs { operands = drop 1 (ops s); global = global })
    (record { operands = drop_fits W.shapes 1 (ops s) r.operands; dicts = r.dicts; bottom = r.bottom; state = r.state; states = r.states; marks = r.marks; size = r.size })))

currentglobal_keeps : IsLawful currentglobal
currentglobal_keeps text s W f =
    read_keeps (room_for 1 (ops s)) (λ _ _.
    leaves_keeps f (literal (kind.Boolean s.regs.global) ∷ ops s) (tt, f.state.registers.operands))

vmstatus_keeps : IsLawful vmstatus
vmstatus_keeps text s W f =
    read_keeps (level_told (length s.regs.saves)) (λ level _.
    read_keeps (room_for 3 (ops s)) (λ _ _.
    leaves_keeps f (integer (unit_budget s.kind) ∷ integer s.units ∷ integer level ∷ ops s) (tt, (tt, (tt, f.state.registers.operands)))))

vmreclaim_keeps : IsLawful vmreclaim
vmreclaim_keeps text s W f =
    read_keeps (needed 1 (ops s)) (λ _ _.
    read_keeps (integer_at 0 (ops s)) (λ i _.
    leaves_keeps f (drop 1 (ops s)) (drop_fits W.shapes 1 (ops s) f.state.registers.operands)))

realtime_keeps : IsLawful realtime
realtime_keeps text s W f =
    read_keeps (room_for 1 (ops s)) (λ _ _.
    leaves_keeps f (integer (s.moment % 2147483648) ∷ ops s) (tt, f.state.registers.operands))

usertime_keeps : IsLawful usertime
usertime_keeps text s W f =
    read_keeps (room_for 1 (ops s)) (λ _ _.
    leaves_keeps f (integer s.turns ∷ ops s) (tt, f.state.registers.operands))

-- ---- a save is opened

save_keeps : IsLawful save
save_keeps text s W f =
    let r = f.state.registers in
    let b = f.state.budget in
    read_keeps (layer_room s.regs.states) (λ _ _.
    read_keeps (room_for 1 (ops s)) (λ _ _.
    record {
      lawful = (
        sym f.state.section,
        refl,
        record {
          registers = record {
            operands = (tt, r.operands);
            dicts = r.dicts;
            bottom = r.bottom;
            state = r.state;
            states = (r.state, r.states);
            marks = (
              refl,
              old_state text s W f (next_save s) refl refl s.regs.state r.state,
              old_layers text s W f (next_save s) refl refl s.regs.states r.states,
              r.marks,
            );
            size = r.size;
          };
          frames = f.state.frames;
          act = tt;
          budget = record { turns = b.turns; units = b.units; shows = b.shows; said = b.said };
          within = f.within;
          names = omega arith;
        },
      );
    }))

-- ---- a save is restored

-- what a mark keeps fits what its restore leaves
record FitsMark (K : Shapes) (q : SaveName) (m : SaveMark) : Type 0 where
  state : FitsState (without_newer q K) m.state
  states : FitsLayers (without_newer q K) m.states

module _ (K : Shapes) (q : SaveName) (k : SaveMark) where
  mark_fits : (ms : List SaveMark) (rs : List SaveName) → SoundMarks K ms rs → open_mark q ms ≡ Ok k → FitsMark K q k
  mark_fits [] rs h e = cc
  mark_fits (m ∷ ms) [] h e = absurd h
  mark_fits (m ∷ ms) (r ∷ rs) h e = go (same_save q m.name) refl e (mark_fits ms rs h.3)
    where
      here : m ≡ k → same_save q m.name ≡ true → FitsMark K q k
      here p e =
          let n : q ≡ r = save_is q m.name e ∙ h.0 in
          subst (FitsMark K q) p
          (record { state = subst (λ r. FitsState (without_newer r K) m.state) (sym n) h.1; states = subst (λ r. FitsLayers (without_newer r K) m.states) (sym n) h.2 })

      go : (b : Bool) → same_save q m.name ≡ b → cond {A = Result SaveMark ErrorName} b (Ok m) (open_mark q ms) ≡ Ok k → (open_mark q ms ≡ Ok k → FitsMark K q k) → FitsMark K q k
      go true p e n = let o : m ≡ k = cc in here o p
      go false p e n = n e

none_so : (b : Bool) → unless b ≡ Ok tt → b ≡ false
none_so true e = cc
none_so false e = refl

first_false : (a b c : Bool) → (a || b || c) ≡ false → a ≡ false
first_false a b c e = grind arith

second_false : (a b c : Bool) → (a || b || c) ≡ false → b ≡ false
second_false a b c e = grind arith

third_false : (a b c : Bool) → (a || b || c) ≡ false → c ≡ false
third_false a b c e = grind arith

first_same : (a b c d : ℕ) → (nat_eq a b && nat_eq c d) ≡ true → a ≡ b
first_same a b c d e = grind arith

second_same : (a b c d : ℕ) → (nat_eq a b && nat_eq c d) ≡ true → c ≡ d
second_same a b c d e = grind arith

-- the size of a state's page
abbrev page_of : GState → Size
page_of g = record { width = g.wide; height = g.high }

module _ (text : List ℕ) (s : State) (W : World) (f : Fits text W s) (q : SaveName) (m : SaveMark) (opened : open_mark q s.regs.saves ≡ Ok m) (old : any_newer q (drop 1 (ops s)) s.regs.dicts s.frames ≡ false) where
  objects_old : any_of (object_newer q) (drop 1 (ops s)) ≡ false
  objects_old = first_false (any_of (object_newer q) (drop 1 (ops s))) (any_of (λ d. newer d q) s.regs.dicts) (any_of (frame_newer q) s.frames) old

  dicts_old : any_of (λ d. newer d q) s.regs.dicts ≡ false
  dicts_old = second_false (any_of (object_newer q) (drop 1 (ops s))) (any_of (λ d. newer d q) s.regs.dicts) (any_of (frame_newer q) s.frames) old

  frames_old : any_of (frame_newer q) s.frames ≡ false
  frames_old = third_false (any_of (object_newer q) (drop 1 (ops s))) (any_of (λ d. newer d q) s.regs.dicts) (any_of (frame_newer q) s.frames) old

  -- the restored state fits what the restore leaves, where the paper has the size that the mark says
  restored_leaves : (size : Size) → size ≡ page_of m.state → Leaves text 4 s.frames s 0 (quiet (restored q m s)) (record (restored_to q W) { size = size })
  restored_leaves size e =
      let r = f.state.registers in
      let b = f.state.budget in
      let k = mark_fits W.shapes q m s.regs.saves W.saves r.marks opened in
      record {
        registers = record {
          operands = old_objects W.shapes q (drop 1 (ops s)) objects_old (drop_fits W.shapes 1 (ops s) r.operands);
          dicts = old_dicts W.shapes q s.regs.dicts dicts_old r.dicts;
          bottom = r.bottom;
          state = k.state;
          states = k.states;
          marks = old_marks_before W.shapes q s.regs.saves W.saves f.state.ahead.fall r.marks;
          size = e;
        };
        frames = old_frames W.shapes q s.frames frames_old f.state.frames;
        act = tt;
        budget = record { turns = b.turns; units = b.units; shows = b.shows; said = b.said };
        within = f.within;
        names = omega arith;
      }

  -- so it does behind the change of the page's size
  abbrev Sized : List Change → Type 0
  Sized ws = Changes ws (restored_to q W) s.count (Leaves text 4 s.frames s (names_taken ws) (quiet (restored q m s)))

  sized : Sized (size_changes m.state s.regs.state)
  unfolding size_changes
  sized = go (nat_eq m.state.wide s.regs.state.wide && nat_eq m.state.high s.regs.state.high) refl
    where
      same : (nat_eq m.state.wide s.regs.state.wide && nat_eq m.state.high s.regs.state.high) ≡ true → W.size ≡ page_of m.state
      same e =
          let w : s.regs.state.wide ≡ m.state.wide = sym (first_same m.state.wide s.regs.state.wide m.state.high s.regs.state.high e) in
          let h : s.regs.state.high ≡ m.state.high = sym (second_same m.state.wide s.regs.state.wide m.state.high s.regs.state.high e) in
          f.state.registers.size ∙ (λ i. record { width = w i; height = h i })

      go : (b : Bool) → (nat_eq m.state.wide s.regs.state.wide && nat_eq m.state.high s.regs.state.high) ≡ b → Sized (cond b [] (wipes m.state.wide m.state.high ∷ []))
      go true e = restored_leaves W.size (same e)
      go false e = (tt, refl, tt, tt, restored_leaves (page_of m.state) refl)

  restored_keeps : Keeps text 4 s.frames (restores q (size_changes m.state s.regs.state) (quiet (restored q m s))) s W
  restored_keeps = record { lawful = (mark_named W.shapes q m s.regs.saves W.saves f.state.registers.marks opened, sized) }

restore_keeps : IsLawful restore
restore_keeps text s W f =
    read_keeps (needed 1 (ops s)) (λ _ _.
    read_keeps (save_at 0 (ops s)) (λ q _.
    read_keeps (open_mark q s.regs.saves) (λ m opened.
    read_keeps (unless (any_newer q (drop 1 (ops s)) s.regs.dicts s.frames)) (λ _ old.
    read_keeps (unless (any_of (glyph_newer s.section q) s.frames)) (λ _ _.
    restored_keeps text s W f q m opened (none_so (any_newer q (drop 1 (ops s)) s.regs.dicts s.frames) old))))))

-- ---- all of them

all_keep : AreLawful operators
all_keep =
    save_keeps ▹ restore_keeps ▹ setglobal_keeps ▹ currentglobal_keeps ▹ vmstatus_keeps ▹ vmreclaim_keeps
    ▹ realtime_keeps ▹ usertime_keeps ▹ tt

pub run_keeps : (n : ℕ) → IsLawful (run n)
run_keeps = all_lawful operators all_keep
