-- Reading is lawful.
use Rattle.std.proofs.Common.{◌≡◌, ◌≢◌, ℕ, zero, suc, ◌≤◌, ◌<◌, ◌+◌, ◌%◌, Bool, true, false, not, cond, ◌&&◌, ◌||◌, nat_eq, nat_lt, nat_le, List, [], ◌∷◌, ◌++◌, length, reverse, Option, Some, None, refl, sym, ap, ◌∙◌, subst, arith, le_refl, inl, inr, ◌⊎◌, true≢false}
use Rattle.std.specs.Bool.{⊤}
use Rattle.std.specs.List.{AllByRecursion}
use Rattle.std.specs.Ordering.{nat_cmp, is_gt, ordering_then}
use Rattle.std.proofs.Math.Nat.{mod-lt}
use Rattle.std.proofs.lemmas.List.{length-reverse, reverse-append}
use Rattle.ps_objects.specs.Object.{cell_named}
use Rattle.ps_objects.specs.Object.{whole_of}
use Rattle.ps_objects.specs.declared.cell.Cell.{Cell}
use Rattle.ps_objects.specs.declared.cell.SaveName.{SaveName}
use Rattle.ps_names.specs.declared.error_name.ErrorName.TheVariants.{InvalidAccess, LimitCheck, SyntaxError, Undefined, VmError}
use Rattle.ps_objects.specs.declared.key.Key.{Key}
use Rattle.ps_objects.specs.declared.key.Key.TheVariants as key
use Rattle.ps_objects.specs.declared.object.Object.{Object}
use Rattle.ps_objects.specs.declared.object.Kind.TheVariants as kind
use Rattle.ps_objects.specs.declared.place.Loc.TheVariants as loc
use Rattle.ps_objects.specs.declared.place.Shape.{Shape}
use Rattle.ps_objects.specs.declared.place.Shape.TheVariants as shape
use Rattle.ps_objects.specs.declared.place.Value.{Value}
use Rattle.ps_objects.specs.declared.place.Value.TheVariants as value
use Rattle.ps_kinds.specs.declared.state.State.{State}
use Rattle.ps_memory.specs.Memory.{in_global, is_global, newer, is, spot_of, is_kind}
use Rattle.ps_memory.specs.Ownership.{same_cell}
use Rattle.ps_memory.proofs.Order.{cell_is}
use Rattle.ps_memory.specs.Tree.{Change, puts, makes, opens, Tree, ends, changes}
use Rattle.ps_meaning.specs.Answer.{names_taken}
use Rattle.ps_meaning.specs.Fits.{lies_within, IsDict, FitsObject, FitsSpot, SharedSpot, value_is_shared, is_system_dict, IsLoc}
use Rattle.ps_meaning.specs.Sound.{World, with_cell, made, resized, saved_at, IsNew, IsNewSave, IsAnswer, Lawful}
use Rattle.ps_meaning.specs.Budgets.{unit_budget}
use Rattle.ps_execution.specs.Execution.{Read, reads}
use Rattle.ps_execution.specs.Gather.{Spelt, object, bad, nothing, Gathering, scanned, mode_space, next_cell, stores_items, stores_bytes, with_array, with_string, body_object, string_units, names_local, Onward, complete_in, complete, complete_value_in, complete_value, executable, gather_string, open_brace, close_in, end_in, gather_token, gather_scan, gather_from}
use Rattle.ps_execution.specs.Objects.{found_in, searches}
use Rattle.ps_meaning.specs.Start.{literal}
use Rattle.ps_scan.proofs.TokenLemmas.{at_moves}
use Rattle.ps_scan.specs.Token.{token_at, MovesOn}
use Rattle.ps_scan.specs.declared.tokens.Scan.{Scan}
use Rattle.ps_scan.specs.declared.tokens.Scan.TheVariants as scan
use Rattle.ps_scan.specs.declared.tokens.Token.{Token}
use Rattle.ps_scan.specs.declared.tokens.Token.TheVariants as token
use Rattle.ps_execution.specs.Lawful.{FitsSpelt, unpaid, FitsRead, ReadLaw}
use Rattle.ps_meaning.specs.Ready.{FitsFrame, IsMadeBefore, Fits}
use Rattle.ps_scan.proofs.ShortLemmas.{IsShort, ScansShort, at_short}
use Rattle.ps_execution.proofs.Grows.{all_map, Grows, grows_then, object_grows, frame_grows, start_grows, registers_grow, made_here, made_grows}

-- ---- changes, one by one

abbrev change_world : Change → World → World
change_world (puts l v) W = resized l v W
change_world (makes c sh) W = made c sh W
change_world (opens s) W = saved_at s W

abbrev worlds : List Change → World → World
worlds [] W = W
worlds (w ∷ ws) W = worlds ws (change_world w W)

abbrev LawfulChange : Change → World → Type 0
LawfulChange (puts l v) W = IsLoc W.shapes l × (is_kind (spot_of l) v ≡ true) × FitsSpot W.shapes (spot_of l) (is v) × SharedSpot (spot_of l) (is v)
LawfulChange (makes c sh) W = IsNew c W
LawfulChange (opens s) W = IsNewSave s W

abbrev LawfulChanges : List Change → World → Type 0
LawfulChanges [] W = ⊤
LawfulChanges (w ∷ ws) W = LawfulChange w W × LawfulChanges ws (change_world w W)

lawful_changes : {A : Type 0} (ws : List Change) (t : Tree A) (W : World) (Q : World → A → Type 0) → LawfulChanges ws W → Lawful t (worlds ws W) Q → Lawful (changes ws t) W Q
lawful_changes [] t W Q h l = l
lawful_changes (puts p v ∷ ws) t W Q h l = (h.0.0, h.0.1, h.0.2, h.0.3, lawful_changes ws t (resized p v W) Q h.1 l)
lawful_changes (makes c sh ∷ ws) t W Q h l = (h.0, lawful_changes ws t (made c sh W) Q h.1 l)
lawful_changes (opens s ∷ ws) t W Q h l = (h.0, lawful_changes ws t (saved_at s W) Q h.1 l)

worlds_both : (xs ys : List Change) (W : World) → worlds (xs ++ ys) W ≡ worlds ys (worlds xs W)
worlds_both [] ys W = refl
worlds_both (x ∷ xs) ys W = worlds_both xs ys (change_world x W)

both_lawful : (xs ys : List Change) (W : World) → LawfulChanges xs W → LawfulChanges ys (worlds xs W) → LawfulChanges (xs ++ ys) W
both_lawful [] ys W h k = k
both_lawful (x ∷ xs) ys W h k = (h.0, both_lawful xs ys (change_world x W) h.1 k)

names_both : (xs ys : List Change) → names_taken (xs ++ ys) ≡ names_taken xs + names_taken ys
names_both [] ys = omega arith
names_both (puts l v ∷ xs) ys = names_both xs ys
names_both (makes c sh ∷ xs) ys = let e = names_both xs ys in omega (arith, e)
names_both (opens s ∷ xs) ys = let e = names_both xs ys in omega (arith, e)

-- ---- the stores of a new cell

items_unnamed : (c : Cell) (i : ℕ) (xs : List Object) → names_taken (stores_items c i xs) ≡ 0
items_unnamed c i [] = refl
items_unnamed c i (x ∷ xs) = items_unnamed c (suc i) xs

bytes_unnamed : (c : Cell) (i : ℕ) (bs : List ℕ) → names_taken (stores_bytes c i bs) ≡ 0
bytes_unnamed c i [] = refl
bytes_unnamed c i (b ∷ bs) = bytes_unnamed c (suc i) bs

items_world : (c : Cell) (i : ℕ) (xs : List Object) (V : World) → worlds (stores_items c i xs) V ≡ V
items_world c i [] V = refl
items_world c i (x ∷ xs) V = items_world c (suc i) xs V

bytes_world : (c : Cell) (i : ℕ) (bs : List ℕ) (V : World) → worlds (stores_bytes c i bs) V ≡ V
bytes_world c i [] V = refl
bytes_world c i (b ∷ bs) V = bytes_world c (suc i) bs V

-- an object that may be an item of a cell of the mode
abbrev FitsItem : Bool → World → Object → Type 0
FitsItem g V x = FitsObject V.shapes x × (g ≡ true → names_local (cell_named x.kind) ≡ false)

-- the items of an open brace
abbrev FitsBrace : Bool → World → List Object → Type 0
FitsBrace g V xs = AllByRecursion (FitsItem g V) xs × (length xs ≤ 65535)

shared_of : (holder : Cell) (o : Option Cell) → names_local o ≡ false → value_is_shared holder o ≡ true
shared_of holder None h = refl
shared_of holder (Some c) h = go (is_global c) h
  where
    go : (b : Bool) → not b ≡ false → (b || (is_system_dict holder && nat_eq c.section 0)) ≡ true
    go true h = refl
    go false h = absurd (true≢false h)

mode_of : (g : Bool) (c : Cell) → c.space ≡ mode_space g → is_global c ≡ true → g ≡ true
mode_of true c e h = refl
mode_of false c e h = absurd (true≢false (sym h ∙ ap in_global e))

items_lawful : (g : Bool) (c : Cell) (size i : ℕ) (xs : List Object) (V : World) → c.space ≡ mode_space g → V.shapes c ≡ Some (shape.Array size) → i + length xs ≤ size → AllByRecursion (FitsItem g V) xs → LawfulChanges (stores_items c i xs) V
items_lawful g c size i [] V m e h k = tt
items_lawful g c size i (x ∷ xs) V m e h k =
    (((size, e, omega (arith, h)), refl, k.0.0, λ s. shared_of c (cell_named x.kind) (k.0.1 (mode_of g c m s))), items_lawful g c size (suc i) xs V m e (omega (arith, h)) k.1)

small : (b : ℕ) → nat_lt (b % 256) 256 ≡ true
small b = let h : b % 256 < 256 = mod-lt b (omega arith) in grind (arith, h)

bytes_lawful : (c : Cell) (size i : ℕ) (bs : List ℕ) (V : World) → V.shapes c ≡ Some (shape.Str size) → i + length bs ≤ size → LawfulChanges (stores_bytes c i bs) V
bytes_lawful c size i [] V e h = tt
bytes_lawful c size i (b ∷ bs) V e h = (((size, e, omega (arith, h)), small b, tt, tt), bytes_lawful c size (suc i) bs V e (omega (arith, h)))

-- ---- a new cell

newer_than : (a b c d : ℕ) → ((c < a) ⊎ ((c ≡ a) × (d < b))) → is_gt (ordering_then (nat_cmp a c) (nat_cmp b d)) ≡ true
newer_than a b c d (inl h) = grind (arith, h)
newer_than a b c d (inr h) = let p = h.0 in let q = h.1 in grind (arith, p, q)

newer_is : (c : Cell) (r : SaveName) → is_global c ≡ false → IsMadeBefore c.section c.count r → newer c r ≡ true
newer_is c r g h = ap (λ b. not b && is_gt (ordering_then (nat_cmp c.section r.section) (nat_cmp c.count r.count))) g ∙ newer_than c.section c.count r.section r.count h

all_both : {X : Type 0} (P : X → Type 0) (xs ys : List X) → AllByRecursion P xs → AllByRecursion P ys → AllByRecursion P (xs ++ ys)
all_both P [] ys h k = k
all_both P (x ∷ xs) ys h k = (h.0, all_both P xs ys h.1 k)

all_reversed : {X : Type 0} (P : X → Type 0) (xs : List X) → AllByRecursion P xs → AllByRecursion P (reverse xs)
all_reversed P [] h = tt
all_reversed P (x ∷ xs) h = subst (AllByRecursion P) (sym (reverse-append (x ∷ []) xs)) (all_both P (reverse xs) (x ∷ []) (all_reversed P xs h.1) (h.0, tt))

module _ (text : List ℕ) (s : State) where
  abbrev at_count : ℕ → ℕ → State
  at_count n u = record s { count = n; units = u }

  new_name : (V : World) (n u : ℕ) (c : Cell) → Fits text V (at_count n u) → c.section ≡ s.section → c.count ≡ n → IsNew c V
  new_name V n u c f a b = (
    a ∙ sym f.state.section,
    λ d i j. f.state.ahead.here d (i ∙ a ∙ sym f.state.section) (omega (arith, b, j)),
    λ g. all_map (IsMadeBefore V.section n) (λ r. newer c r ≡ true) V.saves (λ r h. newer_is c r g (moved r h)) f.state.ahead.saves,
  )
    where
      moved : (r : SaveName) → IsMadeBefore V.section n r → IsMadeBefore c.section c.count r
      moved r h = subst (λ m. IsMadeBefore m c.count r) (f.state.section ∙ sym a) (subst (λ m. IsMadeBefore V.section m r) (sym b) h)

  -- the state once the cell is made
  with_new : (V : World) (n u : ℕ) (c : Cell) (sh : Shape) → Fits text V (at_count n u) → c.section ≡ s.section → c.count ≡ n → V.shapes c ≡ None → Fits text (made c sh V) (at_count (suc n) u)
  with_new V n u c sh f a b e =
      let J = with_cell c sh V.shapes in
      let g : Grows V.shapes J = made_grows c sh V.shapes e in
      record {
        state = record {
          registers = registers_grow V J s.regs g f.state.registers;
          frames = all_map (FitsFrame V.shapes) (FitsFrame J) s.frames (frame_grows V.shapes J g) f.state.frames;
          ahead = record {
            here = λ d i h. unmade d (omega (arith, h)) (f.state.ahead.here d i (omega (arith, h)));
            later = λ d h. unmade_later d h (f.state.ahead.later d h);
            saves = all_map (IsMadeBefore V.section n) (IsMadeBefore V.section (suc n)) V.saves before_next f.state.ahead.saves;
            fall = f.state.ahead.fall;
            begun = f.state.ahead.begun;
            section = f.state.ahead.section;
          };
          budget = record { turns = f.state.budget.turns; units = f.state.budget.units; shows = f.state.budget.shows; said = f.state.budget.said };
          section = f.state.section;
        };
        start = start_grows V.shapes J g f.start;
        within = f.within;
      }
    where
      before_next : (r : SaveName) → IsMadeBefore V.section n r → IsMadeBefore V.section (suc n) r
      before_next r (inl h) = inl h
      before_next r (inr h) = inr (h.0, omega (arith, h.1))

      apart_from : (d : Cell) → d ≢ c → V.shapes d ≡ None → with_cell c sh V.shapes d ≡ None
      apart_from d m h = go (same_cell d c) refl
        where
          go : (b : Bool) → same_cell d c ≡ b → cond b (Some sh) (V.shapes d) ≡ None
          go true i = absurd (m (cell_is d c i))
          go false i = h

      unmade : (d : Cell) → n < d.count → V.shapes d ≡ None → with_cell c sh V.shapes d ≡ None
      unmade d k h = apart_from d (λ i. let j : d.count ≡ c.count = ap (λ (x : Cell). x.count) i in absurd (omega (arith, j, k, b))) h

      unmade_later : (d : Cell) → V.section < d.section → V.shapes d ≡ None → with_cell c sh V.shapes d ≡ None
      unmade_later d k h =
          let l : V.section ≡ s.section = f.state.section in
          apart_from d (λ i. let j : d.section ≡ c.section = ap (λ (x : Cell). x.section) i in absurd (omega (arith, j, k, a, l))) h

  module _ (W : World) (size : ℕ) (begins : Fits text W s) where
    abbrev Q : World → Read → Type 0
    Q = FitsRead text s size W

    -- what was gathered, and the world in which its cells stand
    record Going (g : Gathering) (V : World) : Type 0 where
      lawful : LawfulChanges g.changes W
      world : worlds g.changes W ≡ V
      fits : Fits text V (at_count (s.count + g.made) g.units)
      grows : Grows W.shapes V.shapes
      items : AllByRecursion (FitsBrace s.regs.global V) g.open_braces
      names : names_taken g.changes ≡ g.made

    abbrev IsPaid : ℕ → Gathering → Type 0
    IsPaid n g = g.made + s.units ≤ g.units + n

    finished : (x : Spelt) (place : ℕ) (g : Gathering) (V : World) → Going g V → place ≤ size → FitsSpelt V x → IsPaid (unpaid x) g → Lawful (reads (scanned x place g) s) W Q
    finished x place g V G b f p =
        let d : Read = record { spelt = x; place = place; state = record s { count = s.count + names_taken g.changes; units = g.units } } in
        let n : names_taken g.changes ≡ g.made = G.names in
        lawful_changes g.changes (ends d) W Q G.lawful
        (subst (λ U. Q U d) (sym G.world) (record {
          state = subst (λ k. Fits text V (at_count (s.count + k) g.units)) (sym n) G.fits;
          grows = G.grows;
          spelt = f;
          place = b;
          turns = refl;
          paid = omega (arith, n, p);
        }))

    -- what an object of the mode's memory names isn't local in a global cell
    mode_names : (g : Bool) (c : Cell) → c.space ≡ mode_space g → g ≡ true → names_local (Some c) ≡ false
    mode_names g c e h = ap (λ sp. not (in_global sp)) (e ∙ ap mode_space h)

    name_of : (g : Gathering) (V : World) → Going g V → IsNew (next_cell s g) V
    name_of g V G = new_name V (s.count + g.made) g.units (next_cell s g) G.fits refl refl

    item_grows : (V U : World) → Grows V.shapes U.shapes → (x : Object) → FitsItem s.regs.global V x → FitsItem s.regs.global U x
    item_grows V U k x h = (object_grows V.shapes U.shapes k x h.0, h.1)

    brace_grows : (V U : World) → Grows V.shapes U.shapes → (xs : List Object) → FitsBrace s.regs.global V xs → FitsBrace s.regs.global U xs
    brace_grows V U k xs h = (all_map (FitsItem s.regs.global V) (FitsItem s.regs.global U) xs (item_grows V U k) h.0, h.1)

    -- a new cell with its stores
    module _ (g : Gathering) (V : World) (G : Going g V) (sh : Shape) (stores : List Change) where
      abbrev c : Cell
      c = next_cell s g

      abbrev U : World
      U = made c sh V

      none : V.shapes c ≡ None
      none = (name_of g V G).1 c refl refl

      grew : Grows V.shapes U.shapes
      grew = made_grows c sh V.shapes none

      stands : U.shapes c ≡ Some sh
      stands = made_here c sh V.shapes

      abbrev taken : Gathering
      taken = record g { changes = g.changes ++ makes c sh ∷ stores; made = suc g.made }

      taken_going : LawfulChanges stores U → worlds stores U ≡ U → names_taken stores ≡ 0 → Going taken U
      taken_going l w n = record {
        lawful = both_lawful g.changes (makes c sh ∷ stores) W G.lawful (subst (LawfulChanges (makes c sh ∷ stores)) (sym G.world) (name_of g V G, l));
        world = worlds_both g.changes (makes c sh ∷ stores) W ∙ ap (worlds (makes c sh ∷ stores)) G.world ∙ w;
        fits = subst (λ k. Fits text U (at_count k g.units)) next (with_new V (s.count + g.made) g.units c sh G.fits refl refl none);
        grows = grows_then W.shapes V.shapes U.shapes G.grows grew;
        items = all_map (FitsBrace s.regs.global V) (FitsBrace s.regs.global U) g.open_braces (brace_grows V U grew) G.items;
        names = names_both g.changes (makes c sh ∷ stores) ∙ counted;
      }
        where
          next : suc (s.count + g.made) ≡ s.count + suc g.made
          next = omega arith

          counted : names_taken g.changes + suc (names_taken stores) ≡ suc g.made
          counted = let a : names_taken g.changes ≡ g.made = G.names in omega (arith, a, n)

    abbrev ShareIf : List (List Object) → Object → Type 0
    ShareIf [] x = ⊤
    ShareIf (items ∷ outer) x = s.regs.global ≡ true → names_local (cell_named x.kind) ≡ false

    abbrev IsOnward : Onward → Type 0
    IsOnward r = (place : ℕ) (g : Gathering) (V : World) → place ≤ size → Going g V → IsPaid 0 g → Lawful (reads (r place g) s) W Q

    with_item : (x : Object) (items : List Object) (outer : List (List Object)) (g : Gathering) (V : World) → Going g V → FitsItem s.regs.global V x → AllByRecursion (FitsBrace s.regs.global V) (items ∷ outer)
        → length items < 65535 → g.units < unit_budget s.kind → Going (record g { units = suc g.units; open_braces = (x ∷ items) ∷ outer }) V
    with_item x items outer g V G h k n b = record {
      lawful = G.lawful;
      world = G.world;
      fits = record {
        state = record {
          registers = G.fits.state.registers;
          frames = G.fits.state.frames;
          ahead = G.fits.state.ahead;
          budget = record { turns = G.fits.state.budget.turns; units = omega (arith, b); shows = G.fits.state.budget.shows; said = G.fits.state.budget.said };
          section = G.fits.state.section;
        };
        start = G.fits.start;
        within = G.fits.within;
      };
      grows = G.grows;
      items = (((h, k.0.0), omega (arith, n)), k.1);
      names = G.names;
    }

    less : (a b : ℕ) → nat_lt a b ≡ true → a < b
    less a b h = grind arith

    complete_lawful : (r : Onward) → IsOnward r → (x : Object) (place : ℕ) (g : Gathering) (V : World) (open_ones : List (List Object)) → place ≤ size → Going g V → AllByRecursion (FitsBrace s.regs.global V) open_ones
        → FitsObject V.shapes x → ShareIf open_ones x → IsPaid 1 g → Lawful (reads (complete_in r s x place g open_ones) s) W Q
    complete_lawful r o x place g V [] b G k f h p = finished (object x) place g V G b f p
    complete_lawful r o x place g V (items ∷ outer) b G k f h p = limit (nat_lt (length items) 65535) refl
      where
        room : length items < 65535 → (t : Bool) → nat_lt g.units (unit_budget s.kind) ≡ t → Lawful (reads (cond t (r place (record g { units = suc g.units; open_braces = (x ∷ items) ∷ outer })) (scanned (bad VmError) place g)) s) W Q
        room n true e = o place (record g { units = suc g.units; open_braces = (x ∷ items) ∷ outer }) V b (with_item x items outer g V G (f, h) k n (less g.units (unit_budget s.kind) e)) (omega (arith, p))
        room n false e = finished (bad VmError) place g V G b tt p

        limit : (t : Bool) → nat_lt (length items) 65535 ≡ t → Lawful (reads (cond t (cond (nat_lt g.units (unit_budget s.kind)) (r place (record g { units = suc g.units; open_braces = (x ∷ items) ∷ outer })) (scanned (bad VmError) place g)) (scanned (bad LimitCheck) place g)) s) W Q
        limit true e = room (less (length items) 65535 e) (nat_lt g.units (unit_budget s.kind)) refl
        limit false e = finished (bad LimitCheck) place g V G b tt p

    more : (n : ℕ) (g : Gathering) → IsPaid 0 g → IsPaid n g
    more n g p = omega (arith, p)

    no_share : (o : List (List Object)) (x : Object) → names_local (cell_named x.kind) ≡ false → ShareIf o x
    no_share [] x e = tt
    no_share (items ∷ outer) x e = λ _. e

    -- an object that names no cell
    simple_lawful : (r : Onward) → IsOnward r → (x : Object) → cell_named x.kind ≡ None → FitsObject (λ _. None) x → (place : ℕ) (g : Gathering) (V : World) → place ≤ size → Going g V → IsPaid 0 g → FitsObject V.shapes x → Lawful (reads (complete r s x place g) s) W Q
    simple_lawful r o x e z place g V b G p f = complete_lawful r o x place g V g.open_braces b G G.items f (no_share g.open_braces x (ap names_local e)) (more 1 g p)

    both_false : (a b : Bool) → (a && b) ≡ false → a ≡ true → b ≡ false
    both_false true b e h = e
    both_false false b e h = absurd (true≢false (sym h))

    value_in_lawful : (r : Onward) → IsOnward r → (x : Object) (place : ℕ) (g : Gathering) (V : World) (o : List (List Object)) → place ≤ size → Going g V → AllByRecursion (FitsBrace s.regs.global V) o → IsPaid 0 g → FitsObject V.shapes x
        → Lawful (reads (complete_value_in r s x place g o) s) W Q
    value_in_lawful r i x place g V [] b G k p f = finished (object x) place g V G b f (more 1 g p)
    value_in_lawful r i x place g V (items ∷ outer) b G k p f = go (s.regs.global && names_local (cell_named x.kind)) refl
      where
        go : (t : Bool) → (s.regs.global && names_local (cell_named x.kind)) ≡ t → Lawful (reads (cond t (scanned (bad InvalidAccess) place g) (complete_in r s x place g (items ∷ outer))) s) W Q
        go true e = finished (bad InvalidAccess) place g V G b tt (more 1 g p)
        go false e = complete_lawful r i x place g V (items ∷ outer) b G k f (λ h. both_false s.regs.global (names_local (cell_named x.kind)) e h) (more 1 g p)

    -- a name that is replaced by its value, which is looked for in the world before any change
    now_lawful : (r : Onward) → IsOnward r → (ds : List Cell) (k : Key) (place : ℕ) (g : Gathering) (V : World) → AllByRecursion (IsDict W.shapes) ds → place ≤ size → Going g V → IsPaid 0 g
        → Lawful (reads (searches ds k (λ x. complete_value r s x place g) (scanned (bad Undefined) place g)) s) W Q
    now_lawful r o [] k place g V h b G p = finished (bad Undefined) place g V G b tt (more 1 g p)
    now_lawful r o (d ∷ ds) k place g V h b G p = (h.0, λ v a. go v a (now_lawful r o ds k place g V h.1 b G p))
      where
        go : (v : Value) → IsAnswer W (loc.Entry d k) v → Lawful (reads (searches ds k (λ x. complete_value r s x place g) (scanned (bad Undefined) place g)) s) W Q
            → Lawful (reads (found_in v (λ x. complete_value r s x place g) (searches ds k (λ x. complete_value r s x place g) (scanned (bad Undefined) place g))) s) W Q
        go value.Absent a l = l
        go (value.Object x) a l = value_in_lawful r o x place g V g.open_braces b G G.items p (object_grows W.shapes V.shapes G.grows x a.1)
        go (value.Byte n) a l = l
        go (value.Access x) a l = l
        go (value.Keys ks) a l = l
        go (value.Rand n) a l = l
        go (value.Paper q) a l = l

    within : (a b : ℕ) → nat_le a b ≡ true → a ≤ b
    within a b h = grind arith

    -- an interval from a cell's start
    whole_lies : (n m : ℕ) → n ≤ m → n ≤ 65535 → lies_within 0 n m ≡ true
    whole_lies n m h k = grind (arith, h, k)

    -- more units, within the budget
    with_units : (n : ℕ) (g : Gathering) (V : World) → Going g V → g.units + n ≤ unit_budget s.kind → Going (record g { units = g.units + n }) V
    with_units n g V G b = record {
      lawful = G.lawful;
      world = G.world;
      fits = record {
        state = record {
          registers = G.fits.state.registers;
          frames = G.fits.state.frames;
          ahead = G.fits.state.ahead;
          budget = record { turns = G.fits.state.budget.turns; units = b; shows = G.fits.state.budget.shows; said = G.fits.state.budget.said };
          section = G.fits.state.section;
        };
        start = G.fits.start;
        within = G.fits.within;
      };
      grows = G.grows;
      items = G.items;
      names = G.names;
    }

    string_fits : (g : Gathering) (bs : List ℕ) (V : World) → length bs ≤ 65535 → V.shapes (next_cell s g) ≡ Some (shape.Str (length bs)) → FitsObject V.shapes (literal (kind.Str (whole_of (next_cell s g) (length bs))))
    string_fits g bs V n e = (shape.Str (length bs), e, whole_lies (length bs) (length bs) (omega arith) n)

    string_lawful : (r : Onward) → IsOnward r → (bs : List ℕ) → length bs ≤ 65535 → (place : ℕ) (g : Gathering) (V : World) → place ≤ size → Going g V → IsPaid 0 g → Lawful (reads (gather_string r s bs place g) s) W Q
    string_lawful r o bs l place g V b G p = go (nat_le (g.units + string_units (length bs)) (unit_budget s.kind)) refl
      where
        made_going : g.units + string_units (length bs) ≤ unit_budget s.kind → Going (with_string (next_cell s g) bs (string_units (length bs)) g) (made (next_cell s g) (shape.Str (length bs)) V)
        made_going h =
            let sh = shape.Str (length bs) in
            let c = next_cell s g in
            with_units (string_units (length bs)) (record g { changes = g.changes ++ makes c sh ∷ stores_bytes c 0 bs; made = suc g.made }) (made c sh V)
            (taken_going g V G sh (stores_bytes c 0 bs) (bytes_lawful c (length bs) 0 bs (made c sh V) (made_here c sh V.shapes) (omega arith)) (bytes_world c 0 bs (made c sh V)) (bytes_unnamed c 0 bs)) h

        go : (t : Bool) → nat_le (g.units + string_units (length bs)) (unit_budget s.kind) ≡ t
            → Lawful (reads (cond t (complete r s (literal (kind.Str (whole_of (next_cell s g) (length bs)))) place (with_string (next_cell s g) bs (string_units (length bs)) g)) (scanned (bad VmError) place g)) s) W Q
        go true e =
            let U = made (next_cell s g) (shape.Str (length bs)) V in
            let H = made_going (within (g.units + string_units (length bs)) (unit_budget s.kind) e) in
            complete_lawful r o (literal (kind.Str (whole_of (next_cell s g) (length bs)))) place (with_string (next_cell s g) bs (string_units (length bs)) g) U g.open_braces b H H.items
            (string_fits g bs U l (made_here (next_cell s g) (shape.Str (length bs)) V.shapes)) (share g.open_braces) (omega (arith, p))
          where
            share : (o : List (List Object)) → ShareIf o (literal (kind.Str (whole_of (next_cell s g) (length bs))))
            share [] = tt
            share (items ∷ outer) = mode_names s.regs.global (next_cell s g) refl
        go false e = finished (bad VmError) place g V G b tt (more 1 g p)

    brace_lawful : (r : Onward) → IsOnward r → (place : ℕ) (g : Gathering) (V : World) → place ≤ size → Going g V → IsPaid 0 g → Lawful (reads (open_brace r place g) s) W Q
    brace_lawful r o place g V b G p = go (nat_lt (length g.open_braces) 1000)
      where
        go : (t : Bool) → Lawful (reads (cond t (r place (record g { open_braces = [] ∷ g.open_braces })) (scanned (bad LimitCheck) place g)) s) W Q
        go true = o place (record g { open_braces = [] ∷ g.open_braces }) V b (record { lawful = G.lawful; world = G.world; fits = G.fits; grows = G.grows; items = ((tt, omega arith), G.items); names = G.names }) p
        go false = finished (bad LimitCheck) place g V G b tt (more 1 g p)

    module _ (r : Onward) (i : IsOnward r) (place : ℕ) (g : Gathering) (V : World) (items : List Object) (outer : List (List Object)) (b : place ≤ size) (G : Going g V)
        (k : AllByRecursion (FitsBrace s.regs.global V) (items ∷ outer)) (p : IsPaid 0 g) where
      abbrev a : Cell
      a = next_cell s g

      abbrev long : Shape
      long = shape.Array (length (reverse items))

      abbrev Z : World
      Z = made a long V

      wider : Grows V.shapes Z.shapes
      wider = made_grows a long V.shapes ((name_of g V G).1 a refl refl)

      fit : AllByRecursion (FitsItem s.regs.global Z) (reverse items)
      fit = all_map (FitsItem s.regs.global V) (FitsItem s.regs.global Z) (reverse items) (item_grows V Z wider) (all_reversed (FitsItem s.regs.global V) items k.0.0)

      kept : AllByRecursion (FitsBrace s.regs.global Z) outer
      kept = all_map (FitsBrace s.regs.global V) (FitsBrace s.regs.global Z) outer (brace_grows V Z wider) k.1

      whole : Going (with_array a (reverse items) g) Z
      whole = taken_going g V G long (stores_items a 0 (reverse items)) (items_lawful s.regs.global a (length (reverse items)) 0 (reverse items) Z refl (made_here a long V.shapes) (omega arith) fit) (items_world a 0 (reverse items) Z) (items_unnamed a 0 (reverse items))

      body_fits : FitsObject Z.shapes (body_object a (length items) s.regs.packing)
      body_fits = let e : length (reverse items) ≡ length items = length-reverse items in (long, made_here a long V.shapes, whole_lies (length items) (length (reverse items)) (omega (arith, e)) k.0.1)

      body_share : (o : List (List Object)) → ShareIf o (body_object a (length items) s.regs.packing)
      body_share [] = tt
      body_share (x ∷ xs) = mode_names s.regs.global a refl

      closed : Lawful (reads (close_in r s place g (items ∷ outer)) s) W Q
      closed =
          complete_lawful r i (body_object a (length items) s.regs.packing) place (record (with_array a (reverse items) g) { open_braces = outer }) Z outer b
          (record { lawful = whole.lawful; world = whole.world; fits = whole.fits; grows = whole.grows; items = kept; names = whole.names }) kept body_fits (body_share outer) (omega (arith, p))

    close_lawful : (r : Onward) → IsOnward r → (place : ℕ) (g : Gathering) (V : World) (o : List (List Object)) → place ≤ size → Going g V → AllByRecursion (FitsBrace s.regs.global V) o → IsPaid 0 g → Lawful (reads (close_in r s place g o) s) W Q
    close_lawful r i place g V [] b G k p = finished (bad SyntaxError) place g V G b tt (more 1 g p)
    close_lawful r i place g V (items ∷ outer) b G k p = closed r i place g V items outer b G k p

    end_lawful : (place : ℕ) (g : Gathering) (V : World) (o : List (List Object)) → place ≤ size → Going g V → IsPaid 0 g → Lawful (reads (end_in size place g o) s) W Q
    end_lawful place g V [] b G p = finished nothing place g V G b tt p
    end_lawful place g V (items ∷ outer) b G p = finished (bad SyntaxError) size g V G (le_refl _) tt (more 1 g p)

    token_lawful : (r : Onward) → IsOnward r → (t : Token) → IsShort t → (place : ℕ) (g : Gathering) (V : World) → place ≤ size → Going g V → IsPaid 0 g → Lawful (reads (gather_token r s t place g) s) W Q
    token_lawful r o (token.Integer z) l place g V b G p = simple_lawful r o (literal (kind.Integer z)) refl tt place g V b G p tt
    token_lawful r o (token.Real x) l place g V b G p = simple_lawful r o (literal (kind.Real x)) refl tt place g V b G p tt
    token_lawful r o (token.Literal n) l place g V b G p = simple_lawful r o (literal (kind.Name n)) refl tt place g V b G p tt
    token_lawful r o (token.Exec n) l place g V b G p = simple_lawful r o (executable (kind.Name n)) refl tt place g V b G p tt
    token_lawful r o (token.Now n) l place g V b G p = now_lawful r o s.regs.dicts (key.Name n) place g V begins.state.registers.dicts b G p
    token_lawful r o (token.Str bs) l place g V b G p = string_lawful r o bs l place g V b G p
    token_lawful r o token.BodyBegin l place g V b G p = brace_lawful r o place g V b G p
    token_lawful r o token.BodyEnd l place g V b G p = close_lawful r o place g V g.open_braces b G G.items p

    scan_lawful : (r : Onward) → IsOnward r → (x : Scan) → ScansShort x → (place : ℕ) (g : Gathering) (V : World) → place ≤ size → MovesOn place size x → Going g V → IsPaid 0 g → Lawful (reads (gather_scan r s size place x g) s) W Q
    scan_lawful r o (scan.Token t next) l place g V b m G p = token_lawful r o t l next g V m.1 G p
    scan_lawful r o scan.End l place g V b m G p = end_lawful place g V g.open_braces b G p
    scan_lawful r o (scan.Bad e next) l place g V b m G p = finished (bad e) next g V G m.1 tt (more 1 g p)

    from_lawful : (bytes : List ℕ) → length bytes ≡ size → (n : ℕ) → IsOnward (gather_from n bytes s)
    from_lawful bytes e zero place g V b G p = finished (bad SyntaxError) place g V G b tt (more 1 g p)
    from_lawful bytes e (suc n) place g V b G p =
        subst (λ m. Lawful (reads (gather_scan (gather_from n bytes s) s m place (token_at bytes place) g) s) W Q) (sym e)
        (scan_lawful (gather_from n bytes s) (from_lawful bytes e n) (token_at bytes place) (at_short bytes place) place g V b
        (subst (λ m. MovesOn place m (token_at bytes place)) e (at_moves bytes place (subst (λ m. place ≤ m) (sym e) b))) G p)

    first_going : Going (record { changes = []; made = 0; units = s.units; open_braces = [] }) W
    first_going = record {
      lawful = tt;
      world = refl;
      fits = subst (λ n. Fits text W (at_count n s.units)) same begins;
      grows = λ c n. refl;
      items = tt;
      names = refl;
    }
      where
        same : s.count ≡ s.count + 0
        same = omega arith

pub read_law : ReadLaw
read_law text bytes place s W f b =
    from_lawful text s W (length bytes) f bytes refl (suc (length bytes)) place (record { changes = []; made = 0; units = s.units; open_braces = [] }) W b (first_going text s W (length bytes) f) (omega arith)
