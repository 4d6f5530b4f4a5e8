-- What fits goes on fitting where more stands.
use Rattle.std.proofs.Common.{◌≡◌, ◌≢◌, Bool, true, false, cond, List, [], ◌∷◌, Option, Some, None, refl, sym, ap, ◌∙◌}
use Rattle.std.specs.List.{AllByRecursion}
use Rattle.ps_objects.specs.Key.{cell_of_key}
use Rattle.ps_objects.specs.Object.{cell_named}
use Rattle.ps_objects.specs.declared.cell.Cell.{Cell}
use Rattle.ps_objects.specs.declared.cell.SaveName.{SaveName}
use Rattle.ps_objects.specs.declared.object.Object.{Object}
use Rattle.ps_objects.specs.declared.place.Shape.{Shape}
use Rattle.ps_kinds.specs.declared.frame.Frame.{Frame}
use Rattle.ps_kinds.specs.declared.frame.Frame.TheVariants as frame
use Rattle.ps_kinds.specs.declared.frame.Pair.{Pair}
use Rattle.ps_kinds.specs.declared.graphics.GState.{GState}
use Rattle.ps_kinds.specs.declared.graphics.Layer.{Layer}
use Rattle.ps_kinds.specs.declared.regs.Regs.{Regs}
use Rattle.ps_kinds.specs.declared.regs.SaveMark.{SaveMark}
use Rattle.ps_kinds.specs.declared.show.ShowForm.{ShowForm}
use Rattle.ps_kinds.specs.declared.show.ShowForm.TheVariants as form
use Rattle.ps_memory.specs.Memory.{newer}
use Rattle.ps_memory.specs.Ownership.{same_cell}
use Rattle.ps_memory.proofs.Order.{cell_is, cell_itself}
use Rattle.ps_meaning.specs.Fits.{Shapes, takes, key_takes, FitsCell, FitsObject, IsDict}
use Rattle.ps_meaning.specs.Registers.{FitsState, FitsLayers, SoundMarks, SoundRegisters}
use Rattle.ps_meaning.specs.Sound.{World, named_at_start, start_cells, StartStands, without_newer, with_cell}
use Rattle.ps_meaning.proofs.Fits.{apart}
use Rattle.ps_meaning.specs.Ready.{FitsPair, FitsForm, FitsFrame}

pub all_map : {X : Type 0} (P Q : X → Type 0) (xs : List X) → ((x : X) → P x → Q x) → AllByRecursion P xs → AllByRecursion Q xs
all_map P Q [] f h = tt
all_map P Q (x ∷ xs) f h = (f x h.0, all_map P Q xs f h.1)

abbrev pub Grows : Shapes → Shapes → Type 0
Grows K J = (c : Cell) → K c ≢ None → J c ≡ K c

pub grows_then : (K J L : Shapes) → Grows K J → Grows J L → Grows K L
grows_then K J L f g c n = g c (λ e. n (sym (f c n) ∙ e)) ∙ f c n

module _ (K J : Shapes) (g : Grows K J) where
  pub cell_grows : (o : Option Cell) (t : Shape → Bool) → FitsCell K o t → FitsCell J o t
  cell_grows None t h = tt
  cell_grows (Some c) t h = (h.0, g c (λ e. apart h.0 (sym h.1 ∙ e)) ∙ h.1, h.2)

  pub object_grows : (x : Object) → FitsObject K x → FitsObject J x
  object_grows x h = cell_grows (cell_named x.kind) (takes x.kind) h

  dict_grows : (c : Cell) → IsDict K c → IsDict J c
  dict_grows c h = (h.0, g c (λ e. apart _ (sym h.1 ∙ e)) ∙ h.1)

  state_grows : (s : GState) → FitsState K s → FitsState J s
  state_grows s h = record { dash = object_grows s.dash h.dash; spot = object_grows s.spot h.spot; transfer = object_grows s.transfer h.transfer; halftone = object_grows s.halftone h.halftone; font = object_grows s.font h.font }

  layers_grow : (ls : List Layer) → FitsLayers K ls → FitsLayers J ls
  layers_grow ls h = all_map (λ l. FitsState K l.state) (λ l. FitsState J l.state) ls (λ l. state_grows l.state) h

  pair_grows : (p : Pair) → FitsPair K p → FitsPair J p
  pair_grows p h = (cell_grows (cell_of_key p.key) (key_takes p.key) h.0, object_grows p.value h.1)

  form_grows : (f : ShowForm) → FitsForm K f → FitsForm J f
  form_grows (form.Kshow procedure) h = object_grows procedure h
  form_grows _ h = tt

  pub frame_grows : (f : Frame) → FitsFrame K f → FitsFrame J f
  frame_grows (frame.Proc body i) h = object_grows body h
  frame_grows (frame.Text x bytes place) h = (object_grows x h.0, h.1)
  frame_grows (frame.For body next increment limit whole) h = object_grows body h
  frame_grows (frame.Repeat body n) h = object_grows body h
  frame_grows (frame.Loop body) h = object_grows body h
  frame_grows (frame.Items array i body) h = (object_grows array h.0, object_grows body h.1)
  frame_grows (frame.Bytes string i body) h = (object_grows string h.0, object_grows body h.1)
  frame_grows (frame.Pairs pairs i body) h = (all_map (FitsPair K) (FitsPair J) pairs pair_grows h.0, object_grows body h.1)
  frame_grows frame.Stopped h = tt
  frame_grows (frame.Show r) h = (object_grows r.string h.0, form_grows r.form h.1)
  frame_grows (frame.Image r) h = object_grows r.procedure h
  frame_grows (frame.Walk w) h = (object_grows w.move_to h.0, object_grows w.line_to h.1, object_grows w.curve_to h.2, object_grows w.close_path h.3)

  pub start_grows : StartStands K → StartStands J
  start_grows h = all_map (λ e. K (named_at_start e) ≡ Some e.shape) (λ e. J (named_at_start e) ≡ Some e.shape) start_cells (λ e k. g (named_at_start e) (λ n. apart e.shape (sym k ∙ n)) ∙ k) h

older_grows : (K J : Shapes) (s : SaveName) → Grows K J → Grows (without_newer s K) (without_newer s J)
older_grows K J s g c n = go (newer c s) n
  where
    go : (b : Bool) → cond b None (K c) ≢ None → cond b None (J c) ≡ cond b None (K c)
    go true n = absurd (n refl)
    go false n = g c n

marks_grow : (K J : Shapes) → Grows K J → (ms : List SaveMark) (ss : List SaveName) → SoundMarks K ms ss → SoundMarks J ms ss
marks_grow K J g [] [] h = tt
marks_grow K J g (m ∷ ms) (s ∷ ss) h = let o = older_grows K J s g in (h.0, state_grows (without_newer s K) (without_newer s J) o m.state h.1, layers_grow (without_newer s K) (without_newer s J) o m.states h.2, marks_grow K J g ms ss h.3)
marks_grow K J g [] (s ∷ ss) h = absurd h
marks_grow K J g (m ∷ ms) [] h = absurd h

pub registers_grow : (W : World) (J : Shapes) (R : Regs) → Grows W.shapes J → SoundRegisters W R → SoundRegisters (record W { shapes = J }) R
registers_grow W J R g r = record {
  operands = all_map (FitsObject W.shapes) (FitsObject J) R.operands (object_grows W.shapes J g) r.operands;
  dicts = all_map (IsDict W.shapes) (IsDict J) R.dicts (dict_grows W.shapes J g) r.dicts;
  bottom = r.bottom;
  state = state_grows W.shapes J g R.state r.state;
  states = layers_grow W.shapes J g R.states r.states;
  marks = marks_grow W.shapes J g R.saves W.saves r.marks;
  size = r.size;
}

-- ---- a new cell

module _ (c : Cell) (sh : Shape) (K : Shapes) where
  pub made_here : with_cell c sh K c ≡ Some sh
  made_here = ap (λ b. cond b (Some sh) (K c)) itself
    where
      itself : same_cell c c ≡ true
      itself = cell_itself c

  pub made_grows : K c ≡ None → Grows K (with_cell c sh K)
  made_grows e d n = go (same_cell d c) refl
    where
      go : (b : Bool) → same_cell d c ≡ b → cond b (Some sh) (K d) ≡ K d
      go true i = absurd (n (ap K (cell_is d c i) ∙ e))
      go false i = refl
