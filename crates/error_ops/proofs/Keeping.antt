-- The default entries of errors keep the states that fit.
use Rattle.std.proofs.Common.{◌≡◌, ◌≢◌, ℕ, suc, ◌+◌, ◌<◌, ◌≤◌, Bool, true, false, nat_le, List, [], ◌∷◌, ◌++◌, drop, length, Some, None, refl, sym, ◌∙◌, subst, append_assoc, true≢false, arith}
use Rattle.std.specs.Prelude.{reverse, codes}
use Rattle.std.specs.List.{AllByRecursion}
use Rattle.std.proofs.lemmas.Grind.{reverse_onto}
use Rattle.std.proofs.lemmas.List.{length-reverse, length-map}
use Rattle.ps_names.specs.declared.error_name.ErrorName.{ErrorName}
use Rattle.ps_names.specs.declared.error_name.ErrorName.TheVariants as error
use Rattle.ps_objects.specs.Operands.{needed, object_at}
use Rattle.ps_objects.specs.declared.cell.Cell.{Cell}
use Rattle.ps_objects.specs.declared.object.Kind.TheVariants as kind
use Rattle.ps_objects.specs.declared.object.Object.{Object}
use Rattle.ps_objects.specs.declared.objects.Interval.{Interval}
use Rattle.ps_objects.specs.declared.place.Shape.{Shape}
use Rattle.ps_objects.specs.declared.place.Shape.TheVariants as shape
use Rattle.ps_kinds.specs.declared.act.Act.TheVariants as act
use Rattle.ps_kinds.specs.declared.state.State.{State}
use Rattle.ps_memory.specs.Memory.{is_global}
use Rattle.ps_memory.specs.Tree.{Change}
use Rattle.ps_meaning.specs.Answer.{names_taken}
use Rattle.ps_meaning.specs.Budgets.{unit_budget}
use Rattle.ps_meaning.specs.Fits.{Shapes, FitsObject, IsDict, lies_within}
use Rattle.ps_meaning.specs.Ready.{Fits, IsAhead}
use Rattle.ps_meaning.specs.Registers.{SoundRegisters}
use Rattle.ps_meaning.specs.Sound.{World, made}
use Rattle.ps_meaning.specs.Start.{error_record}
use Rattle.ps_operator.specs.Lawful.{Changes, Leaves, Keeps, IsLawful}
use Rattle.ps_operator.specs.Operators.{AreLawful}
use Rattle.ps_operator.specs.Registers.{literal, ops, spent, with_ops}
use Rattle.ps_operator.specs.Storing.{item_stores}
use Rattle.ps_operator.proofs.Fitting.{Fit, drop_fits, object_fits}
use Rattle.ps_operator.proofs.Growing.{object_grows, all_grow, stays, new_here, registers_grow, made_frames}
use Rattle.ps_operator.proofs.Lawful.{read_keeps}
use Rattle.ps_operator.proofs.LawfulRuns.{made_ahead}
use Rattle.ps_operator.proofs.Running.{◌▹◌, all_lawful}
use Rattle.error_ops.proofs.Units.{budget_small}
use Rattle.error_ops.proofs.Told.{two_taken}
use Rattle.error_ops.specs.Operators.{operators, run}
use Rattle.error_ops.specs.Recording.{dict_objects, local_cell, array_for, stack_stores, stacks_told, told_under, error_told, recorded, stops_with, stack_items, has_units, stops_within, records}

-- ---- lists that fit

join_fits : (K : Shapes) (xs ys : List Object) → Fit K xs → Fit K ys → Fit K (xs ++ ys)
join_fits K [] ys h g = g
join_fits K (x ∷ xs) ys h g = (h.0, join_fits K xs ys h.1 g)

turned_fits : (K : Shapes) (xs : List Object) → Fit K xs → Fit K (reverse xs)
turned_fits K [] h = tt
turned_fits K (x ∷ xs) h = subst (Fit K) (sym (reverse_onto xs x [])) (join_fits K (reverse xs) (x ∷ []) (turned_fits K xs h.1) (h.0, tt))

dicts_fit : (K : Shapes) (ds : List Cell) → AllByRecursion (IsDict K) ds → Fit K (dict_objects ds)
dicts_fit K [] h = tt
dicts_fit K (d ∷ ds) h = ((shape.Dict h.0.0, h.0.1, refl), dicts_fit K ds h.1)

-- ---- stores in an array of as many items

in_array : (from n len : ℕ) → from + suc n ≤ len → 0 + from < len
in_array from n len h = omega (arith, h)

next_in_array : (from n len : ℕ) → from + suc n ≤ len → from + 1 + n ≤ len
next_in_array from n len h = omega (arith, h)

module _ (W : World) (n : ℕ) (Q : World → Type 0) (c : Cell) (len : ℕ) (stands : W.shapes c ≡ Some (shape.Array len)) (local : is_global c ≡ false) where
  items_then : (from : ℕ) (xs : List Object) (ws : List Change) → from + length xs ≤ len → Fit W.shapes xs → Changes ws W n Q
      → Changes (item_stores (record { cell = c; start = 0; len = len }) from xs ++ ws) W n Q
  unfolding item_stores
  items_then from [] ws l h q = q
  items_then from (x ∷ xs) ws l h q =
      ((len, stands, in_array from (length xs) len l), refl, h.0, (λ g. absurd (true≢false (sym g ∙ local))), items_then (from + 1) xs ws (next_in_array from (length xs) len l) h.1 q)

-- ---- the record of the error

module _ (W : World) (n : ℕ) (Q : World → Type 0) (stands : IsDict W.shapes error_record) where
  told_then : (name : List ℕ) (x : Object) (ws : List Change) → FitsObject W.shapes x → Changes ws W n Q → Changes (told_under name x ∷ ws) W n Q
  told_then name x ws h q = (stands, refl, (tt, h), (λ g. absurd (true≢false (sym g))), q)

  error_told_then : (e : ErrorName) (command : Object) (a b : Interval) → FitsObject W.shapes command → FitsObject W.shapes (literal (kind.Array a false)) → FitsObject W.shapes (literal (kind.Array b false))
      → Q W → Changes (error_told e command a b) W n Q
  unfolding error_told
  error_told_then e command a b h k l q =
      let last = told_then (codes "dstack") (literal (kind.Array b false)) [] l q in
      let fourth = told_then (codes "ostack") (literal (kind.Array a false)) (told_under (codes "dstack") (literal (kind.Array b false)) ∷ []) k last in
      let third = told_then (codes "command") command (told_under (codes "ostack") (literal (kind.Array a false)) ∷ told_under (codes "dstack") (literal (kind.Array b false)) ∷ []) h fourth in
      (stands, refl, (tt, tt), (λ g. absurd (true≢false (sym g))), (stands, refl, (tt, tt), (λ g. absurd (true≢false (sym g))), third))

-- ---- a state with two more cells

whole : (n : ℕ) → n < 4294967296 → lies_within 0 n n ≡ true
whole n h = grind arith

as_long : (m n : ℕ) → m ≡ n → 0 + m ≤ n
as_long m n p = omega (arith, p)

module _ (text : List ℕ) (s : State) (W : World) (f : Fits text W s) (xs : List Object) (ds : List Cell) (n : ℕ) (room : s.units + n ≤ unit_budget s.kind) (size : length xs + length ds ≤ n)
    (hx : Fit W.shapes xs) (hd : AllByRecursion (IsDict W.shapes) ds) where
  abbrev c : Cell
  c = local_cell s 0

  abbrev d : Cell
  d = local_cell s 1

  abbrev one : Shape
  one = shape.Array (length xs)

  abbrev two : Shape
  two = shape.Array (length ds)

  abbrev V : World
  V = made c one W

  abbrev U : World
  U = made d two V

  here_c : c.count ≡ s.count
  here_c = omega arith

  ahead_V : IsAhead V (s.count + 1)
  ahead_V = made_ahead W s.count f.state.ahead c one (sym f.state.section) here_c

  grows_V : (b : Cell) → W.shapes b ≢ None → V.shapes b ≡ W.shapes b
  grows_V = stays W s.count f.state.ahead c one (sym f.state.section) here_c

  grows_U : (b : Cell) → V.shapes b ≢ None → U.shapes b ≡ V.shapes b
  grows_U = stays V (s.count + 1) ahead_V d two (sym f.state.section) refl

  c_in_V : V.shapes c ≡ Some one
  c_in_V = new_here W s.count f.state.ahead c one (sym f.state.section) here_c

  some : (sh : Shape) → Some sh ≢ None
  some sh e = cc

  c_in_U : U.shapes c ≡ Some one
  c_in_U = grows_U c (λ e. some one (sym c_in_V ∙ e)) ∙ c_in_V

  d_in_U : U.shapes d ≡ Some two
  d_in_U = new_here V (s.count + 1) ahead_V d two (sym f.state.section) refl

  list_in_U : (zs : List Object) → Fit W.shapes zs → Fit U.shapes zs
  list_in_U zs h = all_grow V.shapes U.shapes grows_U zs (all_grow W.shapes V.shapes grows_V zs h)

  object_in_U : (x : Object) → FitsObject W.shapes x → FitsObject U.shapes x
  object_in_U x h = object_grows V.shapes U.shapes grows_U x (object_grows W.shapes V.shapes grows_V x h)

  record_in_U : IsDict U.shapes error_record
  record_in_U = (0, grows_U error_record (λ e. some (shape.Dict 0) (sym in_V ∙ e)) ∙ in_V)
    where
      in_V : V.shapes error_record ≡ Some (shape.Dict 0)
      in_V = grows_V error_record (λ e. some (shape.Dict 0) (sym f.start.1.1.1.1.0 ∙ e)) ∙ f.start.1.1.1.1.0

  registers_in_U : SoundRegisters U s.regs
  registers_in_U = registers_grow V (s.count + 1) ahead_V d two (sym f.state.section) refl s.regs (registers_grow W s.count f.state.ahead c one (sym f.state.section) here_c s.regs f.state.registers)

  small : (m : ℕ) → m ≤ length xs + length ds → m < 4294967296
  small m h = omega (arith, h, size, room, budget_small s.kind)

  left : (e : ErrorName) (x : Object) → Leaves text 4 s.frames s (names_taken (recorded e x c d xs ds)) (record { state = spent (with_ops s (drop 1 (ops s))) n; frames = []; act = act.Stop }) U
  left e x =
      let r = registers_in_U in
      let z = two_taken e x c d xs ds in
      record {
        registers = record { operands = drop_fits U.shapes 1 (ops s) r.operands; dicts = r.dicts; bottom = r.bottom; state = r.state; states = r.states; marks = r.marks; size = r.size };
        frames = made_frames V (s.count + 1) ahead_V d two (sym f.state.section) refl s.frames (made_frames W s.count f.state.ahead c one (sym f.state.section) here_c s.frames f.state.frames);
        act = tt;
        budget = record { turns = f.state.budget.turns; units = room; shows = f.state.budget.shows; said = f.state.budget.said };
        within = f.within;
        names = omega (arith, z);
      }

  stops_keep : (e : ErrorName) (x : Object) → FitsObject W.shapes x → Keeps text 4 s.frames (stops_with e s x xs ds n) s W
  unfolding recorded stacks_told
  stops_keep e x h = record { lawful = (sym f.state.section, here_c, (sym f.state.section, refl, changed)) }
    where
      Q : World → Type 0
      Q = Leaves text 4 s.frames s (names_taken (recorded e x c d xs ds)) (record { state = spent (with_ops s (drop 1 (ops s))) n; frames = []; act = act.Stop })

      told : List Change
      told = error_told e x (array_for c (length xs)) (array_for d (length ds))

      operands : List Change
      operands = stack_stores (array_for c (length xs)) xs

      dicts : List Change
      dicts = stack_stores (array_for d (length ds)) (dict_objects ds)

      told_in_U : Changes told U (s.count + 1 + 1) Q
      told_in_U = error_told_then U (s.count + 1 + 1) Q record_in_U e x (array_for c (length xs)) (array_for d (length ds)) (object_in_U x h)
          (one, c_in_U, whole (length xs) (small (length xs) (omega arith)))
          (two, d_in_U, whole (length ds) (small (length ds) (omega arith)))
          (left e x)

      dicts_in_U : Changes (dicts ++ told) U (s.count + 1 + 1) Q
      dicts_in_U = items_then U (s.count + 1 + 1) Q d (length ds) d_in_U refl 0 (reverse (dict_objects ds)) told (as_long (length (reverse (dict_objects ds))) (length ds) (length-reverse (dict_objects ds) ∙ length-map ds (λ e. literal (kind.Dict e)))) (turned_fits U.shapes (dict_objects ds) (list_in_U (dict_objects ds) (dicts_fit W.shapes ds hd))) told_in_U

      changed : Changes ((operands ++ dicts) ++ told) U (s.count + 1 + 1) Q
      changed =
          subst (λ ws. Changes ws U (s.count + 1 + 1) Q) (sym (append_assoc operands dicts told))
          (items_then U (s.count + 1 + 1) Q c (length xs) c_in_U refl 0 (reverse xs) (dicts ++ told) (as_long (length (reverse xs)) (length xs) (length-reverse xs)) (turned_fits U.shapes xs (list_in_U xs hx)) dicts_in_U)

in_budget : (n b : ℕ) → nat_le n b ≡ true → n ≤ b
in_budget n b e = grind (arith, e)

same_units : (n b : ℕ) → n ≤ b → n + 0 ≤ b
same_units n b h = omega (arith, h)

within_keeps : (e : ErrorName) (text : List ℕ) (s : State) (W : World) (f : Fits text W s) (x : Object) → FitsObject W.shapes x → (b : Bool) → has_units s (stack_items s) ≡ b
    → Keeps text 4 s.frames (stops_within b e s x) s W
within_keeps e text s W f x h true p =
    stops_keep text s W f (drop 1 (ops s)) s.regs.dicts (stack_items s) (in_budget (s.units + stack_items s) (unit_budget s.kind) p) (omega arith)
    (drop_fits W.shapes 1 (ops s) f.state.registers.operands) f.state.registers.dicts e x h
within_keeps e text s W f x h false p =
    stops_keep text s W f [] [] 0 (same_units s.units (unit_budget s.kind) f.state.budget.units) (omega arith) tt tt e x h

records_keep : (e : ErrorName) → IsLawful (records e)
records_keep e text s W f =
    read_keeps (needed 1 (ops s)) (λ _ _.
    read_keeps (object_at 0 (ops s)) (λ x p.
    within_keeps e text s W f x (object_fits W.shapes (ops s) 0 x f.state.registers.operands p) (has_units s (stack_items s)) refl))

all_keep : AreLawful operators
all_keep =
    records_keep error.DictStackOverflow ▹ records_keep error.DictStackUnderflow ▹ records_keep error.ExecStackOverflow ▹ records_keep error.InvalidAccess
    ▹ records_keep error.InvalidExit ▹ records_keep error.InvalidFont ▹ records_keep error.InvalidRestore ▹ records_keep error.IoError
    ▹ records_keep error.LimitCheck ▹ records_keep error.NoCurrentPoint ▹ records_keep error.RangeCheck ▹ records_keep error.StackOverflow
    ▹ records_keep error.StackUnderflow ▹ records_keep error.SyntaxError ▹ records_keep error.Timeout ▹ records_keep error.TypeCheck
    ▹ records_keep error.Undefined ▹ records_keep error.UndefinedResult ▹ records_keep error.UnmatchedMark ▹ records_keep error.VmError ▹ tt

pub run_keeps : (n : ℕ) → IsLawful (run n)
run_keeps = all_lawful operators all_keep
