-- Each operator keeps a state that fits: its tree again, with what fits beside each end.
use Rattle.std.proofs.Common.{◌≡◌, ℕ, ◌<◌, Bool, true, false, cond, List, [], ◌∷◌, drop, refl, sym, ◌∙◌, arith}
use Rattle.ps_names.specs.declared.places.TheConstants as at
use Rattle.ps_shapes.specs.Sheet.{Sheet}
use Rattle.ps_shapes.specs.declared.numbers.Real.{Real}
use Rattle.ps_shapes.specs.declared.polygon.Point.{Point}
use Rattle.ps_shapes.specs.declared.polygon.Rule.{Rule}
use Rattle.ps_shapes.specs.declared.polygon.Rule.TheVariants.{NonZero, EvenOdd}
use Rattle.ps_objects.specs.Operands.{needed, array_at, readable_at}
use Rattle.ps_objects.specs.declared.place.Loc.TheVariants as loc
use Rattle.ps_objects.specs.declared.place.Value.{Value}
use Rattle.ps_objects.specs.declared.place.Value.TheVariants as value
use Rattle.ps_kinds.specs.declared.regs.Regs.{Regs}
use Rattle.ps_kinds.specs.declared.state.State.{State}
use Rattle.ps_memory.specs.Tree.{done, lays}
use Rattle.ps_meaning.specs.Budgets.{show_budget}
use Rattle.ps_meaning.specs.Ready.{Fits}
use Rattle.ps_meaning.specs.Registers.{SoundRegisters}
use Rattle.ps_meaning.specs.Sound.{Size, size_of, World, IsAnswer}
use Rattle.ps_operator.specs.Arrays.{items_of}
use Rattle.ps_operator.specs.Budgets.{show_room}
use Rattle.ps_operator.specs.Lawful.{Leaves, Lawfully, Keeps, IsLawful}
use Rattle.ps_operator.specs.Operators.{AreLawful}
use Rattle.ps_operator.specs.Registers.{ops, quiet}
use Rattle.ps_operator.proofs.Fitting.{drop_fits, array_fits}
use Rattle.ps_operator.proofs.Lawful.{read_keeps}
use Rattle.ps_operator.proofs.Running.{◌▹◌, all_lawful}
use Rattle.ps_operator.proofs.Seeking.{Any, seeking_keeps}
use Rattle.real_operands.specs.Points.{point_at}
use Rattle.gstate.proofs.Keeping.{run_keeps as graphics_keep}
use Rattle.gstate.proofs.Looking.{items_seek}
use Rattle.paint_ops.specs.Filling.{without_path, fills, fill, eofill}
use Rattle.paint_ops.specs.Measuring.{is_measured}
use Rattle.paint_ops.specs.Operators.{operators, run}
use Rattle.paint_ops.specs.Outlines.{polygons_of}
use Rattle.paint_ops.specs.Pages.{erasepage, gives_out, with_new_graphics, showpage, copypage}
use Rattle.paint_ops.specs.Painting.{painted_on, paints}
use Rattle.paint_ops.specs.Papers.{paper_then, repaints}
use Rattle.paint_ops.specs.Rectangles.{rectangle_polygons, fours, reals_behind, fills_all, fills_one, fills_array, is_array_next, rectfill}
use Rattle.paint_ops.proofs.Judging.{room_left}

module _ (text : List ℕ) (s : State) (W : World) (f : Fits text W s) where
  -- ---- the paper is stored

  -- registers that fit, on paper of their size
  paper_leaves : (R : Regs) → SoundRegisters W R → (size : Size) → size ≡ W.size → Leaves text 4 s.frames s 0 (quiet (record s { regs = R })) (record W { size = size })
  paper_leaves R h size e =
      let b = f.state.budget in
      record {
        registers = record { operands = h.operands; dicts = h.dicts; bottom = h.bottom; state = h.state; states = h.states; marks = h.marks; size = e ∙ h.size };
        frames = f.state.frames;
        act = tt;
        budget = record { turns = b.turns; units = b.units; shows = b.shows; said = b.said };
        within = f.within;
        names = omega arith;
      }

  repaints_kept : (change : Sheet → Sheet) → ((p : Sheet) → size_of (change p) ≡ size_of p) → (R : Regs) → SoundRegisters W R → Lawfully text 4 s.frames (repaints change (record s { regs = R })) s W
  repaints_kept change same R h = (tt, go)
    where
      go : (v : Value) → IsAnswer W loc.Paper v → Lawfully text 4 s.frames (paper_then (λ p. done (lays (change p) ∷ []) (quiet (record s { regs = R }))) v) s W
      go (value.Paper p) e = (tt, refl, tt, tt, paper_leaves R h (size_of (change p)) (same p ∙ e))
      go value.Absent e = absurd e
      go (value.Object x) e = absurd e
      go (value.Byte n) e = absurd e
      go (value.Access a) e = absurd e
      go (value.Keys ks) e = absurd e
      go (value.Rand n) e = absurd e

  paints_keeps : (rule : Rule) (polygons : List (List Point)) (R : Regs) → SoundRegisters W R → Keeps text 4 s.frames (paints s rule polygons (record s { regs = R })) s W
  unfolding paints
  paints_keeps rule polygons R h = go (is_measured s.frames)
    where
      go : (b : Bool) → Keeps text 4 s.frames (cond b (done [] (quiet (record s { regs = R }))) (repaints (painted_on s.regs.state rule polygons) (record s { regs = R }))) s W
      go true = record { lawful = paper_leaves R h W.size refl }
      go false =
          record { lawful = repaints_kept (painted_on s.regs.state rule polygons) (λ p. refl) R h }

  -- ---- filling

  fills_keeps : (rule : Rule) → Keeps text 4 s.frames (fills rule s) s W
  fills_keeps rule =
      let r = f.state.registers in
      let g = r.state in
      read_keeps (polygons_of s.regs.state.path) (λ polygons _.
      paints_keeps rule polygons (without_path s).regs
      (record {
        operands = r.operands;
        dicts = r.dicts;
        bottom = r.bottom;
        state = record { dash = g.dash; spot = g.spot; transfer = g.transfer; halftone = g.halftone; font = g.font };
        states = r.states;
        marks = r.marks;
        size = r.size;
      }))

  fills_all_keep : (n : ℕ) (numbers : List Real) → Keeps text 4 s.frames (fills_all s n numbers) s W
  fills_all_keep n numbers =
      let r = f.state.registers in
      read_keeps (rectangle_polygons s.regs.state.ctm numbers) (λ polygons _.
      paints_keeps NonZero polygons (record s.regs { operands = drop n (ops s) })
      (record { operands = drop_fits W.shapes n (ops s) r.operands; dicts = r.dicts; bottom = r.bottom; state = r.state; states = r.states; marks = r.marks; size = r.size }))

  fills_one_keeps : Keeps text 4 s.frames (fills_one s) s W
  fills_one_keeps =
      read_keeps (needed 4 (ops s)) (λ _ _.
      read_keeps (point_at 0 (ops s)) (λ size _.
      read_keeps (point_at 2 (ops s)) (λ corner _.
      fills_all_keep 4 (corner.0 ∷ corner.1 ∷ size.0 ∷ size.1 ∷ []))))

  fills_array_keeps : Keeps text 4 s.frames (fills_array s) s W
  fills_array_keeps =
      read_keeps (array_at 0 (ops s)) (λ a e.
      read_keeps (readable_at 0 (ops s)) (λ _ _.
      read_keeps (fours a) (λ _ _.
      seeking_keeps Any (items_of a) (items_seek (array_fits W.shapes (ops s) 0 a f.state.registers.operands e)) (λ items _.
      read_keeps (reals_behind [] items) (λ numbers _.
      fills_all_keep 1 numbers)))))

  -- ---- pages

  -- one page more is given out, with registers that fit
  gives_keeps : (wipe : Bool) (R : Regs) → SoundRegisters W R → s.shows < show_budget s.kind → Keeps text 4 s.frames (done [] (gives_out wipe (record s { regs = R }))) s W
  gives_keeps wipe R h l =
      let b = f.state.budget in
      record {
        lawful = record {
          registers = h;
          frames = f.state.frames;
          act = tt;
          budget = record { turns = b.turns; units = b.units; shows = omega (arith, l); said = b.said };
          within = f.within;
          names = omega arith;
        };
      }

  -- what `initgraphics` leaves fits
  begun_registers : SoundRegisters W (with_new_graphics s).regs
  begun_registers = (graphics_keep at.INITGRAPHICS text s W f).lawful.registers

fill_keeps : IsLawful fill
fill_keeps text s W f = fills_keeps text s W f NonZero

eofill_keeps : IsLawful eofill
eofill_keeps text s W f = fills_keeps text s W f EvenOdd

rectfill_keeps : IsLawful rectfill
rectfill_keeps text s W f = go (is_array_next (ops s))
  where
    go : (b : Bool) → Keeps text 4 s.frames (cond b (fills_array s) (fills_one s)) s W
    go true = fills_array_keeps text s W f
    go false = fills_one_keeps text s W f

erasepage_keeps : IsLawful erasepage
erasepage_keeps text s W f =
    let r = f.state.registers in
    record {
      lawful = (tt, refl, tt, tt, paper_leaves text s W f s.regs r (record { width = s.regs.state.wide; height = s.regs.state.high }) (sym r.size));
    }

showpage_keeps : IsLawful showpage
showpage_keeps text s W f =
    read_keeps (show_room s.kind s.shows) (λ _ e.
    gives_keeps text s W f true (with_new_graphics s).regs (begun_registers text s W f) (room_left s.kind s.shows e))

copypage_keeps : IsLawful copypage
copypage_keeps text s W f =
    read_keeps (show_room s.kind s.shows) (λ _ e.
    gives_keeps text s W f false s.regs f.state.registers (room_left s.kind s.shows e))

-- ---- all of them

all_keep : AreLawful operators
all_keep =
    fill_keeps ▹ eofill_keeps ▹ rectfill_keeps ▹ erasepage_keeps ▹ showpage_keeps ▹ copypage_keeps ▹ tt

pub run_keeps : (n : ℕ) → IsLawful (run n)
run_keeps = all_lawful operators all_keep
