-- Each operator keeps a state that fits: its tree again, with what fits beside each look and end.
use Rattle.std.proofs.Common.{◌≡◌, ℕ, ◌<◌, Bool, true, false, cond, nat_eq, List, [], ◌∷◌, drop, Option, Some, None, Result, Ok, Err, refl, sym, subst, arith}
use Rattle.ps_names.specs.declared.error_name.ErrorName.{ErrorName}
use Rattle.ps_names.specs.declared.error_name.ErrorName.TheVariants.{RangeCheck}
use Rattle.ps_objects.specs.Access.{read_right}
use Rattle.ps_objects.specs.Object.{cell_named}
use Rattle.ps_objects.specs.Operands.{needed, room_for, object_at, dict_at, procedure_at}
use Rattle.ps_objects.specs.declared.access.Access.{Access}
use Rattle.ps_objects.specs.declared.cell.Cell.{Cell}
use Rattle.ps_objects.specs.declared.object.Kind.{Kind}
use Rattle.ps_objects.specs.declared.object.Kind.TheVariants as kind
use Rattle.ps_objects.specs.declared.object.Object.{Object}
use Rattle.ps_objects.specs.declared.objects.Interval.{Interval}
use Rattle.ps_objects.specs.declared.place.Shape.TheVariants as shape
use Rattle.ps_kinds.specs.declared.graphics.Colour.{Colour}
use Rattle.ps_kinds.specs.declared.graphics.Colour.TheVariants as colour
use Rattle.ps_kinds.specs.declared.graphics.GState.{GState}
use Rattle.ps_kinds.specs.declared.state.State.{State}
use Rattle.ps_meaning.specs.Fits.{takes, FitsCell}
use Rattle.ps_meaning.specs.Ready.{Fits}
use Rattle.ps_meaning.specs.Registers.{FitsState}
use Rattle.ps_meaning.specs.Sound.{World}
use Rattle.ps_operator.specs.Budgets.{unit_room}
use Rattle.ps_operator.specs.Keys.{bytes_of}
use Rattle.ps_operator.specs.Lawful.{HasDict, HasBytes, FitsOption, Keeps, IsLawful}
use Rattle.ps_operator.specs.Making.{next_cell}
use Rattle.ps_operator.specs.Operators.{AreLawful}
use Rattle.ps_operator.specs.Registers.{ops, literal}
use Rattle.ps_operator.specs.Tree.{Ask}
use Rattle.ps_operator.proofs.Ending.{registers_keeps}
use Rattle.ps_operator.proofs.Fitting.{Fit, drop_fits, object_fits, dict_fits, array_fits, string_kind}
use Rattle.ps_operator.proofs.Growing.{new_here, room_kept, made_leaves, new_fits}
use Rattle.ps_operator.proofs.Lawful.{AreBytes, read_keeps, access_keeps, leaves_keeps}
use Rattle.ps_operator.proofs.Running.{◌▹◌, all_lawful}
use Rattle.ps_operator.proofs.Seeking.{Seeks, Any, found_seeks, read_seeks, then_seeks, bytes_seek, seeking_keeps}
use Rattle.real_operands.specs.Reals.{real_at}
use Rattle.colour_ops.specs.Colours.{gray_of, rgb_of, cmyk_of, cut}
use Rattle.colour_ops.specs.Glyphs.{settable}
use Rattle.colour_ops.specs.Setting.{sets, paints, real, setgray, currentgray, setrgbcolor, pushes_rgb, currentrgbcolor, setcmykcolor, pushes_cmyk, currentcmykcolor, by_space, setcolor, currentcolor}
use Rattle.colour_ops.specs.Spaces.{first_colour, item_colour, is_space, one_item, colour_in, setcolorspace, next_one, currentcolorspace}
use Rattle.colour_ops.specs.Screens.{setscreen, currentscreen, settransfer, currenttransfer}
use Rattle.colour_ops.specs.Halftones.{integer_in, size_from, type_from, type_under, size_under, sized, string_in, string_under, table_in, thresholds_by, thresholds_in, sethalftone, currenthalftone}
use Rattle.colour_ops.specs.declared.halftones.Entry.{Entry}
use Rattle.colour_ops.specs.declared.halftones.Entry.TheVariants as entry
use Rattle.colour_ops.specs.declared.halftones.HalftoneType.{HalftoneType}
use Rattle.colour_ops.specs.declared.halftones.HalftoneType.TheVariants as type
use Rattle.colour_ops.specs.Operators.{operators, run}
use Rattle.colour_ops.proofs.Named.{string_kind as string_there}
use Rattle.colour_ops.proofs.Seeking.{entry_seeks, item_seeks}

-- ---- ends with another graphics state

sets_keeps : {text : List ℕ} {s : State} {W : World} → Fits text W s → (n : ℕ) (g : GState) → FitsState W.shapes g → W.size ≡ record { width = g.wide; height = g.high } → Keeps text 4 s.frames (sets s n g) s W
sets_keeps {s = s} {W = W} f n g h z =
    let r = f.state.registers in
    registers_keeps f (record s.regs { operands = drop n (ops s); state = g })
    (record { operands = drop_fits W.shapes n (ops s) r.operands; dicts = r.dicts; bottom = r.bottom; state = h; states = r.states; marks = r.marks; size = z })

paints_keeps : {text : List ℕ} {s : State} {W : World} → Fits text W s → (n : ℕ) (c : Colour) → Keeps text 4 s.frames (paints s n c) s W
paints_keeps {s = s} {W = W} f n c =
    let h = f.state.registers.state in
    sets_keeps f n (record s.regs.state { colour = c }) (record { dash = h.dash; spot = h.spot; transfer = h.transfer; halftone = h.halftone; font = h.font }) f.state.registers.size

-- ---- colours

setgray_keeps : IsLawful setgray
setgray_keeps text s W f =
    read_keeps (needed 1 (ops s)) (λ _ _.
    read_keeps (real_at 0 (ops s)) (λ gray _.
    read_keeps (settable s.frames) (λ _ _.
    paints_keeps f 1 (colour.Gray (cut gray)))))

setrgbcolor_keeps : IsLawful setrgbcolor
setrgbcolor_keeps text s W f =
    read_keeps (needed 3 (ops s)) (λ _ _.
    read_keeps (real_at 0 (ops s)) (λ blue _.
    read_keeps (real_at 1 (ops s)) (λ green _.
    read_keeps (real_at 2 (ops s)) (λ red _.
    read_keeps (settable s.frames) (λ _ _.
    paints_keeps f 3 (colour.Rgb (cut red) (cut green) (cut blue)))))))

setcmykcolor_keeps : IsLawful setcmykcolor
setcmykcolor_keeps text s W f =
    read_keeps (needed 4 (ops s)) (λ _ _.
    read_keeps (real_at 0 (ops s)) (λ black _.
    read_keeps (real_at 1 (ops s)) (λ yellow _.
    read_keeps (real_at 2 (ops s)) (λ magenta _.
    read_keeps (real_at 3 (ops s)) (λ cyan _.
    read_keeps (settable s.frames) (λ _ _.
    paints_keeps f 4 (colour.Cmyk (cut cyan) (cut magenta) (cut yellow) (cut black))))))))

currentgray_keeps : IsLawful currentgray
currentgray_keeps text s W f =
    read_keeps (room_for 1 (ops s)) (λ _ _.
    leaves_keeps f (real (gray_of s.regs.state.colour) ∷ ops s) (tt, f.state.registers.operands))

currentrgbcolor_keeps : IsLawful currentrgbcolor
currentrgbcolor_keeps text s W f =
    read_keeps (room_for 3 (ops s)) (λ _ _.
    leaves_keeps f (pushes_rgb (rgb_of s.regs.state.colour) (ops s)) (tt, (tt, (tt, f.state.registers.operands))))

currentcmykcolor_keeps : IsLawful currentcmykcolor
currentcmykcolor_keeps text s W f =
    read_keeps (room_for 4 (ops s)) (λ _ _.
    leaves_keeps f (pushes_cmyk (cmyk_of s.regs.state.colour) (ops s)) (tt, (tt, (tt, (tt, f.state.registers.operands)))))

by_space_keeps : {text : List ℕ} {s : State} {W : World} {t u v : Ask} (c : Colour) → Keeps text 4 s.frames t s W → Keeps text 4 s.frames u s W → Keeps text 4 s.frames v s W → Keeps text 4 s.frames (by_space c t u v) s W
by_space_keeps (colour.Gray g) h i j = h
by_space_keeps (colour.Rgb r g b) h i j = i
by_space_keeps (colour.Cmyk c m y k) h i j = j

setcolor_keeps : IsLawful setcolor
setcolor_keeps text s W f = by_space_keeps s.regs.state.colour (setgray_keeps text s W f) (setrgbcolor_keeps text s W f) (setcmykcolor_keeps text s W f)

currentcolor_keeps : IsLawful currentcolor
currentcolor_keeps text s W f = by_space_keeps s.regs.state.colour (currentgray_keeps text s W f) (currentrgbcolor_keeps text s W f) (currentcmykcolor_keeps text s W f)

-- ---- spaces

first_by : (n : ℕ) (t : Bool) → nat_eq n 1 ≡ t → cond {A = Result (Unit {0}) ErrorName} t (Ok tt) (Err RangeCheck) ≡ Ok tt → 0 < n
first_by n true p q = grind arith
first_by n false p q = cc

-- an array with one item has its first
first_there : (a : Interval) → one_item a ≡ Ok tt → 0 < a.len
first_there a e = first_by a.len (nat_eq a.len 1) refl e

colour_seeks : (W : World) (right : Access) (k : Kind) → FitsCell W.shapes (cell_named k) (takes k) → Seeks W Any (colour_in right k)
colour_seeks W right (kind.Name name) h = read_seeks (first_colour name) (λ c _. found_seeks Any c tt)
colour_seeks W right (kind.Array a packed) h =
    let x : Object = literal (kind.Array a packed) in
    read_seeks (read_right right) (λ _ _.
    read_seeks (one_item a) (λ _ e.
    item_seeks 0 (array_fits W.shapes (x ∷ []) 0 a (h, tt) refl) (first_there a e) (λ item _.
    read_seeks (item_colour item.kind) (λ c _. found_seeks Any c tt))))
colour_seeks W right _ h = record { looks = tt }

setcolorspace_keeps : IsLawful setcolorspace
setcolorspace_keeps text s W f =
    read_keeps (needed 1 (ops s)) (λ _ _.
    read_keeps (object_at 0 (ops s)) (λ x e.
    read_keeps (is_space x.kind) (λ _ _.
    read_keeps (settable s.frames) (λ _ _.
    seeking_keeps Any (colour_in x.access x.kind) (colour_seeks W x.access x.kind (object_fits W.shapes (ops s) 0 x f.state.registers.operands e)) (λ c _.
    paints_keeps f 1 c)))))

one_below : 0 < 1
one_below = omega arith

currentcolorspace_keeps : IsLawful currentcolorspace
currentcolorspace_keeps text s W f =
    read_keeps (room_for 1 (ops s)) (λ _ _.
    read_keeps (unit_room s.kind s.units 1) (λ _ u.
    let c : Cell = next_cell s in
    let x : Object = literal (kind.Array (next_one s) false) in
    record {
      lawful = (
        sym f.state.section,
        refl,
        (
          (1, new_here W s.count f.state.ahead c (shape.Array 1) (sym f.state.section) refl, one_below),
          refl,
          tt,
          λ _. refl,
          made_leaves text s W f c (shape.Array 1) (x ∷ ops s) 1 refl refl (new_fits f (shape.Array 1) x (ops s) refl refl f.state.registers.operands) (room_kept s 1 u),
        ),
      );
    }))

-- ---- screens and transfer functions

setscreen_keeps : IsLawful setscreen
setscreen_keeps text s W f =
    let h = f.state.registers.state in
    read_keeps (needed 3 (ops s)) (λ _ _.
    read_keeps (procedure_at 0 (ops s)) (λ _ _.
    read_keeps (real_at 1 (ops s)) (λ angle _.
    read_keeps (real_at 2 (ops s)) (λ frequency _.
    read_keeps (settable s.frames) (λ _ _.
    read_keeps (object_at 0 (ops s)) (λ spot e.
    sets_keeps f 3 (record s.regs.state { frequency = frequency; angle = angle; spot = spot })
    (record { dash = h.dash; spot = object_fits W.shapes (ops s) 0 spot f.state.registers.operands e; transfer = h.transfer; halftone = h.halftone; font = h.font }) f.state.registers.size))))))

currentscreen_keeps : IsLawful currentscreen
currentscreen_keeps text s W f =
    let g = s.regs.state in
    read_keeps (room_for 3 (ops s)) (λ _ _.
    leaves_keeps f (g.spot ∷ real g.angle ∷ real g.frequency ∷ ops s) (f.state.registers.state.spot, (tt, (tt, f.state.registers.operands))))

settransfer_keeps : IsLawful settransfer
settransfer_keeps text s W f =
    let h = f.state.registers.state in
    read_keeps (needed 1 (ops s)) (λ _ _.
    read_keeps (procedure_at 0 (ops s)) (λ _ _.
    read_keeps (object_at 0 (ops s)) (λ transfer e.
    sets_keeps f 1 (record s.regs.state { transfer = transfer })
    (record { dash = h.dash; spot = h.spot; transfer = object_fits W.shapes (ops s) 0 transfer f.state.registers.operands e; halftone = h.halftone; font = h.font }) f.state.registers.size)))

currenttransfer_keeps : IsLawful currenttransfer
currenttransfer_keeps text s W f =
    read_keeps (room_for 1 (ops s)) (λ _ _.
    leaves_keeps f (s.regs.state.transfer ∷ ops s) (f.state.registers.state.transfer, f.state.registers.operands))

-- ---- halftones

-- the string that is found fits
string_fits : (W : World) (x : Option Object) (a : Interval) → FitsOption W.shapes x → string_in x ≡ Ok a → HasBytes W.shapes a
string_fits W None a h e = cc
string_fits W (Some x) a h e =
    string_kind W.shapes (kind.Str a) a (subst (λ k. FitsCell W.shapes (cell_named k) (takes k)) (string_there x.access x.kind a e) h) refl

module _ (W : World) (d : Cell) (h : HasDict W.shapes d) where
  type_seeks : Seeks W Any (type_under d entry.HalftoneType)
  type_seeks = entry_seeks h (λ x _. read_seeks (integer_in x) (λ n _. read_seeks (type_from n) (λ t _. found_seeks Any t tt)))

  size_seeks : (e : Entry) → Seeks W Any (size_under d e)
  size_seeks e = entry_seeks h (λ x _. read_seeks (integer_in x) (λ n _. read_seeks (size_from n) (λ m _. found_seeks Any m tt)))

  string_seeks : Seeks W (HasBytes W.shapes) (string_under d entry.Thresholds)
  string_seeks = entry_seeks h (λ x g. read_seeks (string_in x) (λ a e. found_seeks (HasBytes W.shapes) a (string_fits W x a g e)))

  table_seeks : Seeks W Any (table_in d)
  table_seeks =
      then_seeks Any (size_under d entry.Width) (size_seeks entry.Width) (λ width _.
      then_seeks Any (size_under d entry.Height) (size_seeks entry.Height) (λ height _.
      then_seeks (HasBytes W.shapes) (string_under d entry.Thresholds) string_seeks (λ string g.
      read_seeks (sized _ string) (λ _ _.
      then_seeks (AreBytes W string.len) (bytes_of string) (bytes_seek g) (λ bytes _.
      found_seeks Any _ tt)))))

  thresholds_seeks_by : (t : HalftoneType) → Seeks W Any (thresholds_by d t)
  thresholds_seeks_by type.Spot = found_seeks Any _ tt
  thresholds_seeks_by type.Threshold = table_seeks

  thresholds_seek : Seeks W Any (thresholds_in d)
  thresholds_seek = then_seeks Any (type_under d entry.HalftoneType) type_seeks (λ t _. thresholds_seeks_by t)

sethalftone_keeps : IsLawful sethalftone
sethalftone_keeps text s W f =
    let h = f.state.registers.state in
    let o : Fit W.shapes (ops s) = f.state.registers.operands in
    read_keeps (needed 1 (ops s)) (λ _ _.
    read_keeps (dict_at 0 (ops s)) (λ d e.
    read_keeps (object_at 0 (ops s)) (λ x g.
    read_keeps (settable s.frames) (λ _ _.
    access_keeps (dict_fits W.shapes (ops s) 0 d o e) (λ right.
    read_keeps (read_right right) (λ _ _.
    seeking_keeps Any (thresholds_in d) (thresholds_seek W d (dict_fits W.shapes (ops s) 0 d o e)) (λ t _.
    sets_keeps f 1 (record s.regs.state { halftone = x; thresholds = t })
    (record { dash = h.dash; spot = h.spot; transfer = h.transfer; halftone = object_fits W.shapes (ops s) 0 x o g; font = h.font }) f.state.registers.size)))))))

currenthalftone_keeps : IsLawful currenthalftone
currenthalftone_keeps text s W f =
    read_keeps (room_for 1 (ops s)) (λ _ _.
    leaves_keeps f (s.regs.state.halftone ∷ ops s) (f.state.registers.state.halftone, f.state.registers.operands))

-- ---- all of them

all_keep : AreLawful operators
all_keep =
    setgray_keeps ▹ setrgbcolor_keeps ▹ setcmykcolor_keeps ▹ currentgray_keeps ▹ currentrgbcolor_keeps ▹ currentcmykcolor_keeps
    ▹ setcolorspace_keeps ▹ currentcolorspace_keeps ▹ setcolor_keeps ▹ currentcolor_keeps ▹ setscreen_keeps ▹ currentscreen_keeps
    ▹ settransfer_keeps ▹ currenttransfer_keeps ▹ sethalftone_keeps ▹ currenthalftone_keeps ▹ tt

pub run_keeps : (n : ℕ) → IsLawful (run n)
run_keeps = all_lawful operators all_keep
