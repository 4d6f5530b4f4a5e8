-- A job starts in a sound state.
use Rattle.std.proofs.Common.{◌≡◌, ◌≢◌, ℕ, suc, ◌<◌, ◌≤◌, Bool, true, false, cond, List, [], ◌∷◌, ◌++◌, Option, Some, None, refl, sym, ap, ◌∙◌, subst, true≢false, nat_eq, arith, take}
use Rattle.std.specs.Prelude.{codes}
use Rattle.std.specs.Bool.{⊤}
use Rattle.std.specs.Ordering.{eq_by_cmp}
use Rattle.std.specs.List.{AllByRecursion}
use Rattle.std.specs.FinMap.{get, find, from_entries, get-from_entries}
use Rattle.ps_names.specs.declared.places.TheConstants.{FIRST_DEFAULT_ENTRY}
use Rattle.ps_objects.specs.Key.{cell_of_key}
use Rattle.ps_objects.specs.Object.{cell_named}
use Rattle.ps_objects.specs.declared.cell.Cell.{Cell}
use Rattle.ps_objects.specs.declared.cell.Space.{Space}
use Rattle.ps_objects.specs.declared.cell.Space.TheVariants.{Local, Global}
use Rattle.ps_objects.specs.declared.access.Access.{Access}
use Rattle.ps_objects.specs.declared.access.Access.TheVariants.{Unlimited, ReadOnly}
use Rattle.ps_objects.specs.declared.key.Key.{Key}
use Rattle.ps_objects.specs.declared.object.Object.{Object}
use Rattle.ps_objects.specs.declared.place.Value.TheVariants as value
use Rattle.ps_objects.specs.declared.place.Shape.{Shape}
use Rattle.ps_objects.specs.declared.place.Shape.TheVariants as shape
use Rattle.ps_objects.specs.declared.settings.Settings.{Settings}
use Rattle.ps_names.specs.Operators.{operator_names, error_names}
use Rattle.ps_memory.specs.Order.{cell_cmp, key_cmp}
use Rattle.ps_memory.specs.Memory.{is_global, CellMap, Content, dictionary, items, characters, Memory, Slot, entry, access, item, whole, held, is, object_found, in_content, at, shape_in, shape_at, blank}
use Rattle.ps_memory.specs.Ownership.{same_cell}
use Rattle.ps_memory.proofs.Order.{cells_total, keys_total, cell_is, cell_itself, key_is}
use Rattle.ps_meaning.specs.Fits.{Shapes, FitsObject, FitsKey, FitsFound, SharedFound, key_is_shared, value_is_shared}
use Rattle.ps_meaning.proofs.Fits.{apart}
use Rattle.ps_meaning.specs.Sound.{StringFits, IsUnique, StartStands, SoundMemory}
use Rattle.ps_meaning.specs.Registers.{system_dict, global_dict, user_dict, SoundRegisters, world_of}
use Rattle.ps_meaning.specs.Start.{error_dict, error_record, status_dict, font_directory, global_font_directory, version, product, empty_dash, numbered, system_values, system_entries, error_entries, error_record_entries, start_locals, start_globals, start_strings, start_memory, start_registers, StartLaw}

-- ---- lists of entries

abbrev IfSome : {X : Type 0} → (X → Type 0) → Option X → Type 0
IfSome P None = ⊤
IfSome P (Some x) = P x

found_all : {X : Type 0} (P : Cell → X → Type 0) (es : List (Cell × X)) → AllByRecursion (λ e. P e.0 e.1) es → (c : Cell) → IfSome (P c) (find cell_cmp c es)
found_all P [] all c = tt
found_all {X} P (e ∷ es) all c = go (same_cell c e.0) refl (found_all P es all.1 c)
  where
    go : (b : Bool) → same_cell c e.0 ≡ b → IfSome (P c) (find cell_cmp c es) → IfSome (P c) (cond b (Some e.1) (find cell_cmp c es))
    go true h rest = subst (λ d. P d e.1) (sym (cell_is c e.0 h)) all.0
    go false h rest = rest

abbrev start_part : Bool → CellMap
start_part b = cond b (from_entries start_globals) (from_entries start_locals)

-- a fact of each content of the start memory holds of what stands under a cell
module _ (P : Cell → Content → Type 0) (locals : AllByRecursion (λ e. P e.0 e.1) start_locals) (globals : AllByRecursion (λ e. P e.0 e.1) start_globals) where
  of_content : (c : Cell) → IfSome (P c) (get (start_part (is_global c)) c)
  of_content c = go (is_global c)
    where
      go : (b : Bool) → IfSome (P c) (get (start_part b) c)
      go true = subst (IfSome (P c)) (sym (get-from_entries cells_total start_globals c)) (found_all P start_globals globals c)
      go false = subst (IfSome (P c)) (sym (get-from_entries cells_total start_locals c)) (found_all P start_locals locals c)

all_join : {X : Type 0} (P : X → Type 0) (xs ys : List X) → AllByRecursion P xs → AllByRecursion P ys → AllByRecursion P (xs ++ ys)
all_join P [] ys h k = k
all_join P (x ∷ xs) ys h k = (h.0, all_join P xs ys h.1 k)

-- ---- what the entries name

module _ (K : Shapes) where
  abbrev FitsEntry : (Key × Object) → Type 0
  FitsEntry e = FitsKey K e.0 × FitsObject K e.1

  entry_of : (es : List (Key × Object)) → AllByRecursion FitsEntry es → (k : Key) → FitsFound K (entry k) (object_found (find key_cmp k es))
  entry_of [] all k = tt
  entry_of (e ∷ es) all k = go (eq_by_cmp key_cmp k e.0) refl (entry_of es all.1 k)
    where
      go : (b : Bool) → eq_by_cmp key_cmp k e.0 ≡ b → FitsFound K (entry k) (object_found (find key_cmp k es)) → FitsFound K (entry k) (object_found (cond b (Some e.1) (find key_cmp k es)))
      go true h rest = (subst (FitsKey K) (sym (key_is k e.0 h)) all.0.0, all.0.1)
      go false h rest = rest

  abbrev FitsContent : Cell → Content → Type 0
  FitsContent c x = (t : Slot) → FitsFound K t (in_content (Some x) t)

  dict_fits : (c : Cell) (n : ℕ) (a : Access) (es : List (Key × Object)) → AllByRecursion FitsEntry es → FitsContent c (dictionary n a (from_entries es))
  dict_fits c n a es all (entry k) = subst (λ o. FitsFound K (entry k) (object_found o)) (sym (get-from_entries keys_total es k)) (entry_of es all k)
  dict_fits c n a es all access = tt
  dict_fits c n a es all (item i) = tt
  dict_fits c n a es all whole = tt

  string_content : (c : Cell) (n : ℕ) → FitsContent c (characters n)
  string_content c n (entry k) = tt
  string_content c n access = tt
  string_content c n (item i) = tt
  string_content c n whole = tt

  no_items : (c : Cell) → FitsContent c (items [])
  no_items c (entry k) = tt
  no_items c access = tt
  no_items c (item i) = tt
  no_items c whole = tt

  numbered_fits : (n : ℕ) (names : List (List ℕ)) → AllByRecursion FitsEntry (numbered n names)
  numbered_fits n [] = tt
  numbered_fits n (name ∷ names) = ((tt, tt), numbered_fits (suc n) names)

  nothing_there : (t : Slot) → FitsFound K t (is value.Absent)
  nothing_there (entry k) = tt
  nothing_there access = tt
  nothing_there (item i) = tt
  nothing_there whole = tt

  slot_of : (c : Cell) (o : Option Content) (t : Slot) → IfSome (FitsContent c) o → FitsFound K t (in_content o t)
  slot_of c None t h = nothing_there t
  slot_of c (Some x) t h = h t

-- ---- what global cells name

module _ (g : Cell) where
  abbrev SharedEntry : (Key × Object) → Type 0
  SharedEntry e = (key_is_shared (cell_of_key e.0) ≡ true) × (value_is_shared g (cell_named e.1.kind) ≡ true)

  shared_entry : (es : List (Key × Object)) → AllByRecursion SharedEntry es → (k : Key) → SharedFound g (entry k) (object_found (find key_cmp k es))
  shared_entry [] all k = tt
  shared_entry (e ∷ es) all k = go (eq_by_cmp key_cmp k e.0) refl (shared_entry es all.1 k)
    where
      go : (b : Bool) → eq_by_cmp key_cmp k e.0 ≡ b → SharedFound g (entry k) (object_found (find key_cmp k es)) → SharedFound g (entry k) (object_found (cond b (Some e.1) (find key_cmp k es)))
      go true h rest = (subst (λ j. key_is_shared (cell_of_key j) ≡ true) (sym (key_is k e.0 h)) all.0.0, all.0.1)
      go false h rest = rest

  numbered_shared : (n : ℕ) (names : List (List ℕ)) → AllByRecursion SharedEntry (numbered n names)
  numbered_shared n [] = tt
  numbered_shared n (name ∷ names) = ((refl, refl), numbered_shared (suc n) names)

  nothing_shared : (t : Slot) → SharedFound g t (is value.Absent)
  nothing_shared (entry k) = tt
  nothing_shared access = tt
  nothing_shared (item i) = tt
  nothing_shared whole = tt

abbrev SharedContent : Cell → Content → Type 0
SharedContent c x = (t : Slot) → SharedFound c t (in_content (Some x) t)

dict_shared : (c : Cell) (n : ℕ) (a : Access) (es : List (Key × Object)) → AllByRecursion (SharedEntry c) es → SharedContent c (dictionary n a (from_entries es))
dict_shared c n a es all (entry k) = subst (λ o. SharedFound c (entry k) (object_found o)) (sym (get-from_entries keys_total es k)) (shared_entry c es all k)
dict_shared c n a es all access = tt
dict_shared c n a es all (item i) = tt
dict_shared c n a es all whole = tt

string_shared : (c : Cell) (n : ℕ) → SharedContent c (characters n)
string_shared c n (entry k) = tt
string_shared c n access = tt
string_shared c n (item i) = tt
string_shared c n whole = tt

slot_shared : (c : Cell) (o : Option Content) (t : Slot) → IfSome (SharedContent c) o → SharedFound c t (in_content o t)
slot_shared c None t h = nothing_shared c t
slot_shared c (Some x) t h = h t

-- ---- names and strings

abbrev space_at : ℕ → Space
space_at n = cond (nat_eq n 0) Global (cond (nat_eq n 1) Global (cond (nat_eq n 7) Global (cond (nat_eq n 9) Global Local)))

abbrev StartName : Cell → Content → Type 0
StartName c x = (c.section ≡ 0) × (c.space ≡ space_at c.count)

name_of : (c : Cell) (o : Option Content) → IfSome (StartName c) o → shape_in (in_content o whole) ≢ None → (c.section ≡ 0) × (c.space ≡ space_at c.count)
name_of c None h n = absurd (n refl)
name_of c (Some x) h n = h

abbrev StartString : Cell → Content → Type 0
StartString c x = same_cell c version ≡ false → same_cell c product ≡ false → StringFits (shape_in (in_content (Some x) whole)) None

string_of : (c : Cell) (o : Option Content) → IfSome (StartString c) o → same_cell c version ≡ false → same_cell c product ≡ false → StringFits (shape_in (in_content o whole)) None
string_of c None h e f = refl
string_of c (Some x) h e f = h e f

small : AllByRecursion (λ b. b < 256) (codes "page-rip")
small = (omega arith, (omega arith, (omega arith, (omega arith, (omega arith, (omega arith, (omega arith, (omega arith, tt))))))))

page_rip : StringFits (Some (shape.Str 8)) (Some (codes "page-rip"))
page_rip = (codes "page-rip", refl, refl, small)

module _ (n : ℕ) (s : Settings) where
  abbrev M : Memory
  M = start_memory s

  abbrev K : Shapes
  K = shape_at M

  local_stands : (c : Cell) → is_global c ≡ false → K c ≡ shape_in (in_content (find cell_cmp c start_locals) whole)
  local_stands c g = ap (λ b. shape_in (in_content (get (cond b M.globals M.locals) c) whole)) g ∙ ap (λ o. shape_in (in_content o whole)) (get-from_entries cells_total start_locals c)

  global_stands : (c : Cell) → is_global c ≡ true → K c ≡ shape_in (in_content (find cell_cmp c start_globals) whole)
  global_stands c g = ap (λ b. shape_in (in_content (get (cond b M.globals M.locals) c) whole)) g ∙ ap (λ o. shape_in (in_content o whole)) (get-from_entries cells_total start_globals c)

  stands : StartStands K
  stands = (global_stands system_dict refl, (global_stands global_dict refl, (local_stands user_dict refl, (local_stands error_dict refl, (local_stands error_record refl, (local_stands status_dict refl, (local_stands font_directory refl, (global_stands global_font_directory refl, (local_stands version refl, (global_stands product refl, (local_stands empty_dash refl, tt)))))))))))

  values_fit : AllByRecursion (FitsEntry K) system_values
  values_fit = ((tt, tt), ((tt, tt), ((tt, tt), ((tt, (shape.Dict 0, stands.0, refl)), ((tt, (shape.Dict 0, stands.1.0, refl)), ((tt, (shape.Dict 0, stands.1.1.0, refl)), ((tt, (shape.Dict 0, stands.1.1.1.0, refl)), ((tt, (shape.Dict 0, stands.1.1.1.1.0, refl)), ((tt, (shape.Dict 0, stands.1.1.1.1.1.0, refl)), ((tt, (shape.Dict 0, stands.1.1.1.1.1.1.0, refl)), ((tt, (shape.Dict 0, stands.1.1.1.1.1.1.1.0, refl)), ((tt, tt), ((tt, (shape.Str 8, stands.1.1.1.1.1.1.1.1.0, refl)), ((tt, (shape.Str 8, stands.1.1.1.1.1.1.1.1.1.0, refl)), tt))))))))))))))

  system_fits : AllByRecursion (FitsEntry K) system_entries
  system_fits = all_join (FitsEntry K) system_values (numbered 0 (take FIRST_DEFAULT_ENTRY operator_names)) values_fit (numbered_fits K 0 (take FIRST_DEFAULT_ENTRY operator_names))

  values_shared : AllByRecursion (SharedEntry system_dict) system_values
  values_shared = ((refl, refl), ((refl, refl), ((refl, refl), ((refl, refl), ((refl, refl), ((refl, refl), ((refl, refl), ((refl, refl), ((refl, refl), ((refl, refl), ((refl, refl), ((refl, refl), ((refl, refl), ((refl, refl), tt))))))))))))))

  system_shared : AllByRecursion (SharedEntry system_dict) system_entries
  system_shared = all_join (SharedEntry system_dict) system_values (numbered 0 (take FIRST_DEFAULT_ENTRY operator_names)) values_shared (numbered_shared system_dict 0 (take FIRST_DEFAULT_ENTRY operator_names))

  locals_fit : AllByRecursion (λ e. FitsContent K e.0 e.1) start_locals
  locals_fit = (dict_fits K user_dict 0 Unlimited [] tt, (dict_fits K error_dict 0 Unlimited error_entries (numbered_fits K FIRST_DEFAULT_ENTRY error_names), (dict_fits K error_record 0 Unlimited error_record_entries ((tt, tt), tt), (dict_fits K status_dict 0 Unlimited [] tt, (dict_fits K font_directory 0 ReadOnly [] tt, (string_content K version 8, (no_items K empty_dash, tt)))))))

  globals_fit : AllByRecursion (λ e. FitsContent K e.0 e.1) start_globals
  globals_fit = (dict_fits K system_dict 0 ReadOnly system_entries system_fits, (dict_fits K global_dict 0 Unlimited [] tt, (dict_fits K global_font_directory 0 ReadOnly [] tt, (string_content K product 8, tt))))

  found_global : (c : Cell) → IfSome (SharedContent c) (find cell_cmp c start_globals)
  found_global = found_all SharedContent start_globals (dict_shared system_dict 0 ReadOnly system_entries system_shared, (dict_shared global_dict 0 Unlimited [] tt, (dict_shared global_font_directory 0 ReadOnly [] tt, (string_shared product 8, tt))))

  shared_at : (c : Cell) (t : Slot) → is_global c ≡ true → SharedFound c t (at M (held c t))
  shared_at c t g = slot_shared c (get (cond (is_global c) M.globals M.locals) c) t
      (subst (λ b. IfSome (SharedContent c) (get (cond b M.globals M.locals) c)) (sym g) (subst (IfSome (SharedContent c)) (sym (get-from_entries cells_total start_globals c)) (found_global c)))

  named : (c : Cell) → IfSome (StartName c) (get (cond (is_global c) M.globals M.locals) c)
  named = of_content StartName
      ((refl, refl), ((refl, refl), ((refl, refl), ((refl, refl), ((refl, refl), ((refl, refl), ((refl, refl), tt)))))))
      ((refl, refl), ((refl, refl), ((refl, refl), ((refl, refl), tt))))

  unique : IsUnique K
  unique c d x y i j =
      let p = name_of c (get (cond (is_global c) M.globals M.locals) c) (named c) x in
      let q = name_of d (get (cond (is_global d) M.globals M.locals) d) (named d) y in
      let e = p.1 ∙ ap space_at j ∙ sym q.1 in
      λ w. record { section = i w; count = j w; space = e w }

  not_itself : (c : Cell) → same_cell c c ≡ false → ⊥
  not_itself c e = true≢false (sym (cell_itself c) ∙ e)

  other_string : (c : Cell) → IfSome (StartString c) (get (cond (is_global c) M.globals M.locals) c)
  other_string = of_content StartString
      ((λ e f. refl), ((λ e f. refl), ((λ e f. refl), ((λ e f. refl), ((λ e f. refl), ((λ e f. absurd (not_itself version e)), ((λ e f. refl), tt)))))))
      ((λ e f. refl), ((λ e f. refl), ((λ e f. refl), ((λ e f. absurd (not_itself product f)), tt))))

  string_at : (c : Cell) (a b : Bool) → same_cell c version ≡ a → same_cell c product ≡ b → StringFits (K c) (get M.strings c)
  string_at c true b e f = subst (λ c. StringFits (K c) (get M.strings c)) (sym (cell_is c version e))
      (subst (λ w. StringFits w (get M.strings version)) (sym (local_stands version refl)) (subst (StringFits (Some (shape.Str 8))) (sym (get-from_entries cells_total start_strings version)) page_rip))
  string_at c false true e f = subst (λ c. StringFits (K c) (get M.strings c)) (sym (cell_is c product f))
      (subst (λ w. StringFits w (get M.strings product)) (sym (global_stands product refl)) (subst (StringFits (Some (shape.Str 8))) (sym (get-from_entries cells_total start_strings product)) page_rip))
  string_at c false false e f = subst (StringFits (K c)) (sym (get-from_entries cells_total start_strings c ∙ ap (λ x. cond x (Some (codes "page-rip")) (cond (same_cell c product) (Some (codes "page-rip")) None)) e ∙ ap (λ x. cond x (Some (codes "page-rip")) None) f))
      (string_of c (get (cond (is_global c) M.globals M.locals) c) (other_string c) e f)

  memory : SoundMemory (world_of n M) M
  memory = record {
    shapes = λ c. refl;
    slots = λ c t. slot_of K c (get (cond (is_global c) M.globals M.locals) c) t (of_content (FitsContent K) locals_fit globals_fit c);
    shared = shared_at;
    start = stands;
    unique = unique;
    strings = λ c. string_at c (same_cell c version) (same_cell c product) refl refl;
    kept = tt;
    rand = refl;
    page = (blank s.width s.height, refl, refl);
  }

  registers : SoundRegisters (world_of n M) (start_registers s)
  registers = record {
    operands = tt;
    dicts = ((0, stands.1.1.0), ((0, stands.1.0), ((0, stands.0), tt)));
    bottom = ([], refl);
    state = record { dash = (shape.Array 0, stands.1.1.1.1.1.1.1.1.1.1.0, refl); spot = tt; transfer = tt; halftone = tt; font = tt };
    states = tt;
    marks = tt;
    size = refl;
  }

pub start_law : StartLaw
start_law s = (record { registers = λ n. registers n s; memory = λ n. memory n s }, record { cells = λ c l. unnamed s c l (shape_at (start_memory s) c) refl; saves = λ q l. refl })
  where
    unnamed : (s : Settings) (c : Cell) → 1 ≤ c.section → (o : Option Shape) → shape_at (start_memory s) c ≡ o → o ≡ None
    unnamed s c l None e = refl
    unnamed s c l (Some sh) e =
        let (z, _) = name_of c (get (cond (is_global c) (start_memory s).globals (start_memory s).locals) c) (named 1 s c) (λ n. apart sh (sym e ∙ n)) in
        absurd (omega (arith, l, z))
