-- Each operator keeps a state that fits: its tree again, with what fits beside each end.
use Rattle.std.proofs.Common.{◌≡◌, ℕ, Bool, true, false, cond, ◌&&◌, nat_eq, List, [], ◌∷◌, drop, refl, sym, ◌∙◌, arith}
use Rattle.ps_shapes.specs.declared.numbers.Matrix.{Matrix}
use Rattle.ps_shapes.specs.declared.numbers.Real.{Real}
use Rattle.ps_objects.specs.Operands.{needed, room_for, object_at, boolean_at, integer_at, array_at, readable_at}
use Rattle.ps_objects.specs.declared.object.Kind.{Kind}
use Rattle.ps_objects.specs.declared.object.Kind.TheVariants as kind
use Rattle.ps_objects.specs.declared.object.Object.{Object}
use Rattle.ps_kinds.specs.declared.graphics.GState.{GState}
use Rattle.ps_kinds.specs.declared.graphics.Layer.{Layer}
use Rattle.ps_kinds.specs.declared.ranges.LineCap.{LineCap}
use Rattle.ps_kinds.specs.declared.ranges.LineCap.TheVariants as cap
use Rattle.ps_kinds.specs.declared.ranges.LineJoin.{LineJoin}
use Rattle.ps_kinds.specs.declared.ranges.LineJoin.TheVariants as join
use Rattle.ps_kinds.specs.declared.state.State.{State}
use Rattle.ps_memory.specs.Tree.{Change, wipes}
use Rattle.ps_meaning.specs.Answer.{names_taken}
use Rattle.ps_meaning.specs.Fits.{Shapes, FitsObject}
use Rattle.ps_meaning.specs.Ready.{Fits}
use Rattle.ps_meaning.specs.Registers.{FitsState, FitsLayers}
use Rattle.ps_meaning.specs.Sound.{Size, World, StartStands}
use Rattle.ps_meaning.specs.Start.{default_matrix, empty_dash_object}
use Rattle.ps_operator.specs.Arrays.{items_of}
use Rattle.ps_operator.specs.Budgets.{layer_room}
use Rattle.ps_operator.specs.Lawful.{Leaves, Changes, Keeps, IsLawful}
use Rattle.ps_operator.specs.Operators.{AreLawful}
use Rattle.ps_operator.specs.Registers.{ops, literal, quiet}
use Rattle.ps_operator.proofs.Ending.{registers_keeps}
use Rattle.ps_operator.proofs.Fitting.{object_fits, drop_fits, array_fits}
use Rattle.ps_operator.proofs.Lawful.{read_keeps, leaves_keeps}
use Rattle.ps_operator.proofs.Running.{◌▹◌, all_lawful}
use Rattle.ps_operator.proofs.Seeking.{Any, seeking_keeps}
use Rattle.real_operands.specs.Reals.{real_at}
use Rattle.gstate.specs.Beginning.{with_new_page, with_new_lines, begun, initgraphics}
use Rattle.gstate.specs.Dashes.{dash_of, with_dash, setdash, currentdash}
use Rattle.gstate.specs.Layers.{pushed, gsave, size_changes, taken_back, back, goes_back, lowest, grestore, grestoreall}
use Rattle.gstate.specs.Lines.{width_of, cap_of, cap_kind, join_of, join_kind, miter_of, with_width, with_cap, with_join, with_miter, with_flat, with_adjust, setlinewidth, setlinecap, setlinejoin, setmiterlimit, setflat, setstrokeadjust, currentlinewidth, currentlinecap, currentlinejoin, currentmiterlimit, currentflat, currentstrokeadjust}
use Rattle.gstate.specs.Operators.{operators, run}
use Rattle.gstate.specs.Setting.{sets, tells}
use Rattle.gstate.proofs.Looking.{items_seek}

-- ---- a part of the graphics state is set, or told

-- the size of a state's page
abbrev page_of : GState → Size
page_of g = record { width = g.wide; height = g.high }

-- with another part, a state fits where it fitted, and its page has the same size
record Stays (K : Shapes) (g h : GState) : Type 0 where
  fits : FitsState K h
  page : page_of h ≡ page_of g

state_keeps : {text : List ℕ} {s : State} {W : World} → Fits text W s → (n : ℕ) (g : GState) → Stays W.shapes s.regs.state g → Keeps text 4 s.frames (sets s n g) s W
state_keeps {s = s} {W = W} f n g h =
    let r = f.state.registers in
    registers_keeps f (record s.regs { operands = drop n (ops s); state = g })
    (record { operands = drop_fits W.shapes n (ops s) r.operands; dicts = r.dicts; bottom = r.bottom; state = h.fits; states = r.states; marks = r.marks; size = r.size ∙ sym h.page })

module _ (K : Shapes) (g : GState) (f : FitsState K g) where
  width_stays : (w : Real) → Stays K g (with_width g w)
  unfolding with_width
  width_stays w = record { fits = record { dash = f.dash; spot = f.spot; transfer = f.transfer; halftone = f.halftone; font = f.font }; page = refl }

  cap_stays : (c : LineCap) → Stays K g (with_cap g c)
  unfolding with_cap
  cap_stays c = record { fits = record { dash = f.dash; spot = f.spot; transfer = f.transfer; halftone = f.halftone; font = f.font }; page = refl }

  join_stays : (j : LineJoin) → Stays K g (with_join g j)
  unfolding with_join
  join_stays j = record { fits = record { dash = f.dash; spot = f.spot; transfer = f.transfer; halftone = f.halftone; font = f.font }; page = refl }

  miter_stays : (m : Real) → Stays K g (with_miter g m)
  unfolding with_miter
  miter_stays m = record { fits = record { dash = f.dash; spot = f.spot; transfer = f.transfer; halftone = f.halftone; font = f.font }; page = refl }

  flat_stays : (r : Real) → Stays K g (with_flat g r)
  unfolding with_flat
  flat_stays r = record { fits = record { dash = f.dash; spot = f.spot; transfer = f.transfer; halftone = f.halftone; font = f.font }; page = refl }

  adjust_stays : (b : Bool) → Stays K g (with_adjust g b)
  unfolding with_adjust
  adjust_stays b = record { fits = record { dash = f.dash; spot = f.spot; transfer = f.transfer; halftone = f.halftone; font = f.font }; page = refl }

  dash_stays : (x : Object) (offset : Real) (rs : List Real) → FitsObject K x → Stays K g (with_dash g x offset rs)
  unfolding with_dash
  dash_stays x offset rs h = record { fits = record { dash = h; spot = f.spot; transfer = f.transfer; halftone = f.halftone; font = f.font }; page = refl }

  new_page_stays : (m : Matrix) → Stays K g (with_new_page g m)
  unfolding with_new_page
  new_page_stays m = record { fits = record { dash = f.dash; spot = f.spot; transfer = f.transfer; halftone = f.halftone; font = f.font }; page = refl }

  new_lines_stay : FitsObject K empty_dash_object → Stays K g (with_new_lines g)
  unfolding with_new_lines
  new_lines_stay h = record { fits = record { dash = h; spot = f.spot; transfer = f.transfer; halftone = f.halftone; font = f.font }; page = refl }

setlinewidth_keeps : IsLawful setlinewidth
setlinewidth_keeps text s W f =
    read_keeps (needed 1 (ops s)) (λ _ _.
    read_keeps (real_at 0 (ops s)) (λ r _.
    read_keeps (width_of r) (λ w _.
    state_keeps f 1 (with_width s.regs.state w) (width_stays W.shapes s.regs.state f.state.registers.state w))))

setlinecap_keeps : IsLawful setlinecap
setlinecap_keeps text s W f =
    read_keeps (needed 1 (ops s)) (λ _ _.
    read_keeps (integer_at 0 (ops s)) (λ i _.
    read_keeps (cap_of i) (λ c _.
    state_keeps f 1 (with_cap s.regs.state c) (cap_stays W.shapes s.regs.state f.state.registers.state c))))

setlinejoin_keeps : IsLawful setlinejoin
setlinejoin_keeps text s W f =
    read_keeps (needed 1 (ops s)) (λ _ _.
    read_keeps (integer_at 0 (ops s)) (λ i _.
    read_keeps (join_of i) (λ j _.
    state_keeps f 1 (with_join s.regs.state j) (join_stays W.shapes s.regs.state f.state.registers.state j))))

setmiterlimit_keeps : IsLawful setmiterlimit
setmiterlimit_keeps text s W f =
    read_keeps (needed 1 (ops s)) (λ _ _.
    read_keeps (real_at 0 (ops s)) (λ r _.
    read_keeps (miter_of r) (λ m _.
    state_keeps f 1 (with_miter s.regs.state m) (miter_stays W.shapes s.regs.state f.state.registers.state m))))

setflat_keeps : IsLawful setflat
setflat_keeps text s W f =
    read_keeps (needed 1 (ops s)) (λ _ _.
    read_keeps (real_at 0 (ops s)) (λ r _.
    state_keeps f 1 (with_flat s.regs.state r) (flat_stays W.shapes s.regs.state f.state.registers.state r)))

setstrokeadjust_keeps : IsLawful setstrokeadjust
setstrokeadjust_keeps text s W f =
    read_keeps (needed 1 (ops s)) (λ _ _.
    read_keeps (boolean_at 0 (ops s)) (λ b _.
    state_keeps f 1 (with_adjust s.regs.state b) (adjust_stays W.shapes s.regs.state f.state.registers.state b)))

tells_keeps : {text : List ℕ} {s : State} {W : World} → Fits text W s → (k : Kind) → FitsObject W.shapes (literal k) → Keeps text 4 s.frames (tells k s) s W
tells_keeps {s = s} f k h =
    read_keeps (room_for 1 (ops s)) (λ _ _.
    leaves_keeps f (literal k ∷ ops s) (h, f.state.registers.operands))

cap_fits : (K : Shapes) (c : LineCap) → FitsObject K (literal (cap_kind c))
unfolding cap_kind
cap_fits K cap.Butt = tt
cap_fits K cap.Round = tt
cap_fits K cap.Square = tt

join_fits : (K : Shapes) (j : LineJoin) → FitsObject K (literal (join_kind j))
unfolding join_kind
join_fits K join.Miter = tt
join_fits K join.Round = tt
join_fits K join.Bevel = tt

currentlinewidth_keeps : IsLawful currentlinewidth
currentlinewidth_keeps text s W f = tells_keeps f (kind.Real s.regs.state.width) tt

currentlinecap_keeps : IsLawful currentlinecap
currentlinecap_keeps text s W f = tells_keeps f (cap_kind s.regs.state.cap) (cap_fits W.shapes s.regs.state.cap)

currentlinejoin_keeps : IsLawful currentlinejoin
currentlinejoin_keeps text s W f = tells_keeps f (join_kind s.regs.state.join) (join_fits W.shapes s.regs.state.join)

currentmiterlimit_keeps : IsLawful currentmiterlimit
currentmiterlimit_keeps text s W f = tells_keeps f (kind.Real s.regs.state.miter) tt

currentflat_keeps : IsLawful currentflat
currentflat_keeps text s W f = tells_keeps f (kind.Real s.regs.state.flat) tt

currentstrokeadjust_keeps : IsLawful currentstrokeadjust
currentstrokeadjust_keeps text s W f = tells_keeps f (kind.Boolean s.regs.state.adjust) tt

-- ---- dashes

setdash_keeps : IsLawful setdash
setdash_keeps text s W f =
    let o = f.state.registers.operands in
    read_keeps (needed 2 (ops s)) (λ _ _.
    read_keeps (real_at 0 (ops s)) (λ offset _.
    read_keeps (array_at 1 (ops s)) (λ array a.
    read_keeps (object_at 1 (ops s)) (λ x e.
    read_keeps (readable_at 1 (ops s)) (λ _ _.
    seeking_keeps Any (items_of array) (items_seek (array_fits W.shapes (ops s) 1 array o a)) (λ items _.
    read_keeps (dash_of items) (λ rs _.
    state_keeps f 2 (with_dash s.regs.state x offset rs) (dash_stays W.shapes s.regs.state f.state.registers.state x offset rs (object_fits W.shapes (ops s) 1 x o e)))))))))

currentdash_keeps : IsLawful currentdash
currentdash_keeps text s W f =
    read_keeps (room_for 2 (ops s)) (λ _ _.
    leaves_keeps f (literal (kind.Real s.regs.state.offset) ∷ s.regs.state.dash ∷ ops s) (tt, (f.state.registers.state.dash, f.state.registers.operands)))

-- ---- the start

-- the empty dash array stands in each memory
empty_fits : (K : Shapes) → StartStands K → FitsObject K empty_dash_object
empty_fits K h = (_, h.1.1.1.1.1.1.1.1.1.1.0, refl)

begun_stays : (K : Shapes) (dpi : ℕ) (g : GState) → StartStands K → FitsState K g → Stays K g (begun dpi g)
begun_stays K dpi g h f =
    let m : Matrix = default_matrix dpi g.high in
    let p = new_page_stays K g f m in
    let l = new_lines_stay K (with_new_page g m) p.fits (empty_fits K h) in
    record { fits = l.fits; page = l.page ∙ p.page }

initgraphics_keeps : IsLawful initgraphics
initgraphics_keeps text s W f =
    state_keeps f 0 (begun s.settings.dpi s.regs.state)
    (begun_stays W.shapes s.settings.dpi s.regs.state f.start f.state.registers.state)

-- ---- the graphics stack

gsave_keeps : IsLawful gsave
gsave_keeps text s W f =
    let r = f.state.registers in
    read_keeps (layer_room s.regs.states) (λ _ _.
    registers_keeps f (pushed s.regs)
    (record { operands = r.operands; dicts = r.dicts; bottom = r.bottom; state = r.state; states = (r.state, r.states); marks = r.marks; size = r.size }))

-- a state and layers that fit
record FitsBack (K : Shapes) (b : GState × List Layer) : Type 0 where
  state : FitsState K b.0
  states : FitsLayers K b.1

left_fits : (K : Shapes) (l : Layer) (ls : List Layer) (b : Bool) → FitsState K l.state → FitsLayers K ls → FitsLayers K (cond b (l ∷ ls) ls)
left_fits K l ls true h g = (h, g)
left_fits K l ls false h g = g

back_fits : (K : Shapes) (g : GState) (ls : List Layer) → FitsState K g → FitsLayers K ls → FitsBack K (taken_back g ls)
unfolding taken_back
back_fits K g [] h t = record { state = h; states = tt }
back_fits K g (l ∷ ls) h t = record { state = t.0; states = left_fits K l ls l.base t.0 t.1 }

lowest_fits : (K : Shapes) (ls : List Layer) → FitsLayers K ls → FitsLayers K (lowest ls)
lowest_fits K [] h = tt
lowest_fits K (l ∷ []) h = h
lowest_fits K (l ∷ k ∷ ls) h = go l.base (lowest_fits K (k ∷ ls) h.1)
  where
    go : (b : Bool) → FitsLayers K (lowest (k ∷ ls)) → FitsLayers K (cond b (l ∷ k ∷ ls) (lowest (k ∷ ls)))
    go true g = h
    go false g = g

first_same : (a b c d : ℕ) → (nat_eq a b && nat_eq c d) ≡ true → a ≡ b
first_same a b c d e = grind arith

second_same : (a b c d : ℕ) → (nat_eq a b && nat_eq c d) ≡ true → c ≡ d
second_same a b c d e = grind arith

module _ (text : List ℕ) (s : State) (W : World) (f : Fits text W s) (ls : List Layer) (fit : FitsLayers W.shapes ls) where
  abbrev taken : GState × List Layer
  taken = taken_back s.regs.state ls

  -- where the paper has the size that the state says that is taken
  back_leaves : (size : Size) → size ≡ page_of (taken_back s.regs.state ls).0 → Leaves text 4 s.frames s 0 (quiet (record s { regs = back s.regs ls })) (record W { size = size })
  back_leaves size e =
      let r = f.state.registers in
      let b = f.state.budget in
      let k = back_fits W.shapes s.regs.state ls r.state fit in
      record {
        registers = record { operands = r.operands; dicts = r.dicts; bottom = r.bottom; state = k.state; states = k.states; marks = r.marks; size = e };
        frames = f.state.frames;
        act = tt;
        budget = record { turns = b.turns; units = b.units; shows = b.shows; said = b.said };
        within = f.within;
        names = omega arith;
      }

  -- so it does behind the change of the page's size
  abbrev Sized : List Change → Type 0
  Sized ws = Changes ws W s.count (Leaves text 4 s.frames s (names_taken ws) (quiet (record s { regs = back s.regs ls })))

  sized : Sized (size_changes (taken_back s.regs.state ls).0 s.regs.state)
  unfolding size_changes
  sized = go (nat_eq new.wide old.wide && nat_eq new.high old.high) refl
    where
      new : GState
      new = (taken_back s.regs.state ls).0

      old : GState
      old = s.regs.state

      same : (nat_eq new.wide old.wide && nat_eq new.high old.high) ≡ true → W.size ≡ page_of new
      same e =
          let w : old.wide ≡ new.wide = sym (first_same new.wide old.wide new.high old.high e) in
          let h : old.high ≡ new.high = sym (second_same new.wide old.wide new.high old.high e) in
          f.state.registers.size ∙ (λ i. record { width = w i; height = h i })

      go : (b : Bool) → (nat_eq new.wide old.wide && nat_eq new.high old.high) ≡ b → Sized (cond b [] (wipes new.wide new.high ∷ []))
      go true e = back_leaves W.size (same e)
      go false e = (tt, refl, tt, tt, back_leaves (page_of new) refl)

  back_keeps : Keeps text 4 s.frames (goes_back s ls) s W
  back_keeps = record { lawful = sized }

grestore_keeps : IsLawful grestore
grestore_keeps text s W f = back_keeps text s W f s.regs.states f.state.registers.states

grestoreall_keeps : IsLawful grestoreall
grestoreall_keeps text s W f = back_keeps text s W f (lowest s.regs.states) (lowest_fits W.shapes s.regs.states f.state.registers.states)

-- ---- all of them

all_keep : AreLawful operators
all_keep =
    gsave_keeps ▹ grestore_keeps ▹ grestoreall_keeps ▹ initgraphics_keeps ▹ setlinewidth_keeps ▹ setlinecap_keeps
    ▹ setlinejoin_keeps ▹ setmiterlimit_keeps ▹ setflat_keeps ▹ setstrokeadjust_keeps ▹ currentlinewidth_keeps
    ▹ currentlinecap_keeps ▹ currentlinejoin_keeps ▹ currentmiterlimit_keeps ▹ currentflat_keeps
    ▹ currentstrokeadjust_keeps ▹ setdash_keeps ▹ currentdash_keeps ▹ tt

pub run_keeps : (n : ℕ) → IsLawful (run n)
run_keeps = all_lawful operators all_keep
