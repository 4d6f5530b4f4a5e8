-- Sound states and the six clauses.
use Rattle.std.proofs.Common.{◌≡◌, ◌≢◌, ℕ, ◌≤◌, Bool, true, false, cond, not, ◌&&◌, List, [], ◌∷◌, map, Option, Some, None, refl, sym, ap, ◌∙◌, subst, true≢false}
use Rattle.std.specs.Bool.{⊤}
use Rattle.std.specs.FinMap.{get}
use Rattle.std.specs.List.{AllByRecursion}
use Rattle.ps_objects.specs.declared.cell.Cell.{Cell}
use Rattle.ps_objects.specs.declared.cell.SaveName.{SaveName}
use Rattle.ps_objects.specs.declared.place.Shape.{Shape}
use Rattle.ps_objects.specs.declared.object.Object.{Object}
use Rattle.ps_kinds.specs.declared.graphics.GState.{GState}
use Rattle.ps_kinds.specs.declared.graphics.Layer.{Layer}
use Rattle.ps_kinds.specs.declared.regs.Regs.{Regs}
use Rattle.ps_kinds.specs.declared.regs.SaveMark.{SaveMark}
use Rattle.ps_memory.specs.Memory.{is_global, newer, CellMap, Memory, Slot, in_content, shape_at}
use Rattle.ps_meaning.specs.Fits.{Shapes, FitsObject, FitsFound, takes}
use Rattle.ps_objects.specs.Object.{cell_named}
use Rattle.ps_meaning.specs.Sound.{without_newer, SoundCopy, SoundKept, SoundMemory}
use Rattle.ps_meaning.specs.Registers.{FitsState, FitsLayers, SoundMarks, SoundRegisters, SoundState, size_of_page, world_of}
use Rattle.ps_meaning.specs.Ready.{Fall}
use Rattle.ps_meaning.specs.Clauses.{IsMemory, NamesStanding, copy_shape, shapes_with, CopyFits, MarksFit, CopiesFit, KeepsOld, KeepsLater, AllKeepLater, StillStands, CopiesKeep, SavesAgree, IsSound, ClausesLaw}
use Rattle.ps_meaning.proofs.Fits.{apart, cell_stays, found_stays, global_is_old}
use Rattle.ps_meaning.proofs.Memory.{all_map}

-- ---- what stands in a copy or is global is what a restore leaves

module _ (M : Memory) (k : SaveName × CellMap) where
  abbrev K : Shapes
  K = shape_at M

  -- the same shapes, said of local cells
  AreThose : Type 0
  AreThose = (c : Cell) → is_global c ≡ false → copy_shape k.1 c ≡ without_newer k.0 K c

  those : KeepsOld M k → StillStands M k → AreThose
  unfolding AreThose
  those old still c g = go (copy_shape k.1 c) refl (newer c k.0) refl (K c) refl
    where
      go : (x : Option Shape) → copy_shape k.1 c ≡ x → (b : Bool) → newer c k.0 ≡ b → (y : Option Shape) → K c ≡ y → copy_shape k.1 c ≡ cond b None y
      go None e true n y h = e
      go None e false n None h = e
      go None e false n (Some z) h = absurd (apart z (sym h ∙ sym (old c g n (λ i. apart z (sym h ∙ i))) ∙ e))
      go (Some x) e true n y h = absurd (true≢false (sym n ∙ (still c g (λ i. apart x (sym e ∙ i))).0))
      go (Some x) e false n y h = sym (still c g (λ i. apart x (sym e ∙ i))).1 ∙ h

  same : AreThose → (c : Cell) → shapes_with M k.1 c ≡ without_newer k.0 K c
  unfolding AreThose
  same h c = go (is_global c) refl
    where
      go : (b : Bool) → is_global c ≡ b → cond b (K c) (copy_shape k.1 c) ≡ without_newer k.0 K c
      go true g = sym (ap (λ b. cond b None (K c)) (global_is_old c k.0 g))
      go false g = h c g

  kept_old : AreThose → KeepsOld M k
  unfolding AreThose
  kept_old h c g n e = h c g ∙ ap (λ b. cond b None (K c)) n

  still_there : AreThose → StillStands M k
  unfolding AreThose
  still_there h c g e = go (newer c k.0) refl
    where
      go : (b : Bool) → newer c k.0 ≡ b → (newer c k.0 ≡ false) × (K c ≡ copy_shape k.1 c)
      go true n = absurd (e (h c g ∙ ap (λ b. cond b None (K c)) n))
      go false n = (n, sym (h c g ∙ ap (λ b. cond b None (K c)) n))

  copy_from : AreThose → CopyFits M k → SoundCopy (without_newer k.0 K) k.1
  unfolding AreThose
  copy_from h fits = record { shapes = h; slots = λ c t g. found_stays (shapes_with M k.1) (without_newer k.0 K) (λ d n. sym (same h d)) t (in_content (get k.1 c) t) (fits c t g) }

  fits_from : SoundCopy (without_newer k.0 K) k.1 → CopyFits M k
  unfolding AreThose
  fits_from s c t g = found_stays (without_newer k.0 K) (shapes_with M k.1) (λ d n. same s.shapes d) t (in_content (get k.1 c) t) (s.slots c t g)

-- ---- graphics states

module _ (J H : Shapes) (e : (c : Cell) → J c ≡ H c) where
  object_moved : (x : Object) → FitsObject J x → FitsObject H x
  object_moved x h = cell_stays J H (λ c n. sym (e c)) (cell_named x.kind) (takes x.kind) h

  state_moved : (g : GState) → FitsState J g → FitsState H g
  state_moved g h = record { dash = object_moved g.dash h.dash; spot = object_moved g.spot h.spot; transfer = object_moved g.transfer h.transfer; halftone = object_moved g.halftone h.halftone; font = object_moved g.font h.font }

  layers_moved : (ls : List Layer) → FitsLayers J ls → FitsLayers H ls
  layers_moved ls h = all_map (λ l. FitsState J l.state) (λ l. FitsState H l.state) (λ l. state_moved l.state) ls h

-- ---- from the clauses

module _ (M : Memory) where
  kept_from : (kept : List (SaveName × CellMap)) → AllByRecursion (CopyFits M) kept → AllByRecursion (KeepsOld M) kept → AllByRecursion (StillStands M) kept → Fall (map (λ k. k.0) kept) → AllByRecursion (λ k. 1 ≤ k.0.section) kept
      → SoundKept (shape_at M) (map (λ k. k.0) kept) kept
  kept_from [] fits old still fall begun = tt
  kept_from (k ∷ kept) fits old still fall begun = (refl, begun.0, copy_from M k (those M k old.0 still.0) fits.0, fall.0, kept_from kept fits.1 old.1 still.1 fall.1 begun.1)

  marks_from : (marks : List SaveMark) (kept : List (SaveName × CellMap)) → map (λ m. m.name) marks ≡ map (λ k. k.0) kept → MarksFit M marks kept → AllByRecursion (KeepsOld M) kept → AllByRecursion (StillStands M) kept
      → SoundMarks (shape_at M) marks (map (λ k. k.0) kept)
  marks_from [] [] e fits old still = tt
  marks_from [] (k ∷ kept) e fits old still = cc
  marks_from (m ∷ marks) [] e fits old still = cc
  marks_from (m ∷ marks) (k ∷ kept) e fits old still =
      let h = those M k old.0 still.0 in
      let first : m.name ≡ k.0 = cc in
      let rest : map (λ m. m.name) marks ≡ map (λ k. k.0) kept = cc in (
        first,
        state_moved (shapes_with M k.1) (without_newer k.0 (shape_at M)) (same M k h) m.state fits.0,
        layers_moved (shapes_with M k.1) (without_newer k.0 (shape_at M)) (same M k h) m.states fits.1,
        marks_from marks kept rest fits.2 old.1 still.1,
      )

enough : (R : Regs) (M : Memory) → IsSound R M → SoundState R M
enough R M s = record {
  registers = λ n. record {
    operands = s.names.operands;
    dicts = s.names.dicts;
    bottom = s.names.bottom;
    state = s.names.state;
    states = s.names.layers;
    marks = marks_from M R.saves M.kept s.saves.names s.copies.marks s.kept.old s.kept.stands;
    size = s.paper;
  };
  memory = λ n. record {
    shapes = λ c. refl;
    slots = s.names.memory;
    shared = s.shared;
    start = s.names.start;
    unique = s.memory.names;
    strings = s.memory.bytes;
    kept = kept_from M M.kept s.copies.copies s.kept.old s.kept.stands s.saves.fall s.saves.begun;
    rand = s.memory.random;
    page = (s.memory.paper.0, s.memory.paper.1, sym (ap size_of_page s.memory.paper.1));
  };
}

-- ---- to the clauses

module _ (M : Memory) where
  abbrev Kept : List (SaveName × CellMap) → Type 0
  Kept kept = SoundKept (shape_at M) (map (λ k. k.0) kept) kept

  copies_to : (kept : List (SaveName × CellMap)) → Kept kept → AllByRecursion (CopyFits M) kept
  copies_to [] h = tt
  copies_to (k ∷ kept) h = (fits_from M k h.2, copies_to kept h.4)

  old_to : (kept : List (SaveName × CellMap)) → Kept kept → AllByRecursion (KeepsOld M) kept
  unfolding AreThose
  old_to [] h = tt
  old_to (k ∷ kept) h = (kept_old M k h.2.shapes, old_to kept h.4)

  still_to : (kept : List (SaveName × CellMap)) → Kept kept → AllByRecursion (StillStands M) kept
  unfolding AreThose
  still_to [] h = tt
  still_to (k ∷ kept) h = (still_there M k h.2.shapes, still_to kept h.4)

  one_later : (j : SaveName × CellMap) (kept : List (SaveName × CellMap)) → StillStands M j → Kept kept → AllByRecursion (KeepsLater j) kept
  unfolding AreThose
  one_later j [] s h = tt
  one_later j (k ∷ kept) s h = (λ c g n e. let i = (s c g e).1 in kept_old M k h.2.shapes c g n (λ x. e (sym i ∙ x)) ∙ i, one_later j kept s h.4)

  later_to : (kept : List (SaveName × CellMap)) → Kept kept → AllKeepLater kept
  unfolding AreThose
  later_to [] h = tt
  later_to (k ∷ kept) h = (one_later k kept (still_there M k h.2.shapes) h.4, later_to kept h.4)

  fall_to : (kept : List (SaveName × CellMap)) → Kept kept → Fall (map (λ k. k.0) kept)
  fall_to [] h = tt
  fall_to (k ∷ kept) h = (h.3, fall_to kept h.4)

  begun_to : (kept : List (SaveName × CellMap)) → Kept kept → AllByRecursion (λ k. 1 ≤ k.0.section) kept
  begun_to [] h = tt
  begun_to (k ∷ kept) h = (h.1, begun_to kept h.4)

  names_to : (marks : List SaveMark) (kept : List (SaveName × CellMap)) → SoundMarks (shape_at M) marks (map (λ k. k.0) kept) → map (λ m. m.name) marks ≡ map (λ k. k.0) kept
  names_to [] [] h = refl
  names_to [] (k ∷ kept) h = absurd h
  names_to (m ∷ marks) [] h = absurd h
  names_to (m ∷ marks) (k ∷ kept) h = λ i. h.0 i ∷ names_to marks kept h.3 i

  marks_to : (marks : List SaveMark) (kept : List (SaveName × CellMap)) → SoundMarks (shape_at M) marks (map (λ k. k.0) kept) → Kept kept → MarksFit M marks kept
  unfolding AreThose
  marks_to [] kept h k = tt
  marks_to (m ∷ marks) [] h k = tt
  marks_to (m ∷ marks) (k ∷ kept) h s =
      let e : (c : Cell) → without_newer k.0 (shape_at M) c ≡ shapes_with M k.1 c = λ c. sym (same M k s.2.shapes c) in (
        state_moved (without_newer k.0 (shape_at M)) (shapes_with M k.1) e m.state h.1,
        layers_moved (without_newer k.0 (shape_at M)) (shapes_with M k.1) e m.states h.2,
        marks_to marks kept h.3 s.4,
      )

met : (R : Regs) (M : Memory) → SoundState R M → IsSound R M
met R M s =
    let r = s.registers 0 in
    let m = s.memory 0 in
    record {
      memory = record { names = m.unique; bytes = m.strings; random = m.rand; paper = (m.page.0, m.page.1) };
      names = record { start = m.start; bottom = r.bottom; dicts = r.dicts; operands = r.operands; state = r.state; layers = r.states; memory = m.slots };
      copies = record { copies = copies_to M M.kept m.kept; marks = marks_to M R.saves M.kept r.marks m.kept };
      shared = m.shared;
      kept = record { old = old_to M M.kept m.kept; later = later_to M M.kept m.kept; stands = still_to M M.kept m.kept };
      saves = record { names = names_to M R.saves M.kept r.marks; fall = fall_to M M.kept m.kept; begun = begun_to M M.kept m.kept };
      paper = r.size;
    }

pub clauses_law : ClausesLaw
clauses_law = record { met = met; enough = enough }
