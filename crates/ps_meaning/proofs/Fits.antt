-- What fits goes on fitting.
use Rattle.std.proofs.Common.{◌≡◌, ◌≢◌, ℕ, ◌≤◌, ◌<◌, Bool, true, false, cond, not, ◌&&◌, ◌||◌, List, [], ◌∷◌, Option, Some, None, is_some, refl, sym, ap, ◌∙◌, true≢false, nat_eq, eqb-true, arith, map, inl, inr, ◌⊎◌}
use Rattle.std.specs.Ordering.{nat_cmp, is_gt, ordering_then, eq_by_cmp}
use Rattle.std.specs.Cmp.{first_so, second_so}
use Rattle.std.specs.List.{AllByRecursion}
use Rattle.std.specs.FinMap.{FinMap, get, entries, get-entries, find}
use Rattle.ps_objects.specs.Key.{cell_of_key}
use Rattle.ps_objects.specs.Object.{cell_named}
use Rattle.ps_objects.specs.declared.cell.Cell.{Cell}
use Rattle.ps_objects.specs.declared.cell.SaveName.{SaveName}
use Rattle.ps_objects.specs.declared.key.Key.{Key}
use Rattle.ps_objects.specs.declared.object.Object.{Object}
use Rattle.ps_objects.specs.declared.place.Value.TheVariants as value
use Rattle.ps_objects.specs.declared.place.Shape.{Shape}
use Rattle.ps_memory.specs.Order.{key_cmp}
use Rattle.ps_memory.specs.Memory.{is_global, newer, Slot, entry, item, Found, is, object_found}
use Rattle.ps_memory.specs.Frame.{later}
use Rattle.ps_memory.proofs.Order.{key_itself}
use Rattle.ps_meaning.specs.Fits.{Shapes, FitsCell, FitsKey, FitsFound, SharedFound, key_is_shared, value_is_shared, is_system_dict, takes, key_takes}
use Rattle.ps_meaning.specs.Sound.{without_newer}

pub apart : {X : Type 0} (x : X) → Some x ≡ None → ⊥
apart x e = cc

-- ---- where more stands

module _ (K J : Shapes) (same : (c : Cell) → K c ≢ None → J c ≡ K c) where
  pub cell_stays : (o : Option Cell) (f : Shape → Bool) → FitsCell K o f → FitsCell J o f
  cell_stays None f h = tt
  cell_stays (Some c) f h = (h.0, same c (λ a. apart h.0 (sym h.1 ∙ a)) ∙ h.1, h.2)

  pub found_stays : (t : Slot) (x : Found) → FitsFound K t x → FitsFound J t x
  found_stays (entry k) (is (value.Object x)) h = (cell_stays (cell_of_key k) (key_takes k) h.0, cell_stays (cell_named x.kind) (takes x.kind) h.1)
  found_stays (item i) (is (value.Object x)) h = cell_stays (cell_named x.kind) (takes x.kind) h
  found_stays _ _ h = tt

-- ---- once a save is restored

-- a pair of numbers above another
abbrev is_above : (a b c d : ℕ) → Bool
is_above a b c d = is_gt (ordering_then (nat_cmp a c) (nat_cmp b d))

above_means : (a b c d : ℕ) → is_above a b c d ≡ true → (c < a) ⊎ ((a ≡ c) × (d < b))
above_means a b c d h = grind arith

above_first : (a b c d : ℕ) → c < a → is_above a b c d ≡ true
above_first a b c d h = grind arith

above_second : (a b c d : ℕ) → a ≡ c → d < b → is_above a b c d ≡ true
above_second a b c d e h = grind arith

above_chain : (a b c d e f : ℕ) → is_above a b c d ≡ true → is_above c d e f ≡ true → is_above a b e f ≡ true
above_chain a b c d e f h k = go (above_means a b c d h) (above_means c d e f k)
  where
    go : ((c < a) ⊎ ((a ≡ c) × (d < b))) → ((e < c) ⊎ ((c ≡ e) × (f < d))) → is_above a b e f ≡ true
    go (inl x) (inl y) = above_first a b e f (omega (arith, x, y))
    go (inl x) (inr y) = above_first a b e f (omega (arith, x, y.0))
    go (inr x) (inl y) = above_first a b e f (omega (arith, x.0, y))
    go (inr x) (inr y) = above_second a b e f (x.0 ∙ y.0) (omega (arith, x.1, y.1))

pub newer_than_older : (c : Cell) (s r : SaveName) → newer c s ≡ true → later s r ≡ true → newer c r ≡ true
newer_than_older c s r h k =
    let g = first_so (not (is_global c)) (is_above c.section c.count s.section s.count) h in
    let n = above_chain c.section c.count s.section s.count r.section r.count (second_so (not (is_global c)) (is_above c.section c.count s.section s.count) h) k in
    λ i. g i && n i

pub start_is_old : (c : Cell) (s : SaveName) → c.section ≡ 0 → 1 ≤ s.section → newer c s ≡ false
start_is_old c s h k = grind arith

pub global_is_old : (c : Cell) (s : SaveName) → is_global c ≡ true → newer c s ≡ false
global_is_old c s g = ap (λ x. not x && is_gt (ordering_then (nat_cmp c.section s.section) (nat_cmp c.count s.count))) g

module _ (K : Shapes) (s : SaveName) (above : 1 ≤ s.section) where
  newer_named : Option Cell → Bool
  newer_named None = false
  newer_named (Some c) = newer c s

  cell_old : (o : Option Cell) (f : Shape → Bool) → newer_named o ≡ false → FitsCell K o f → FitsCell (without_newer s K) o f
  unfolding newer_named
  cell_old None f e h = tt
  cell_old (Some c) f e h = (h.0, ap (λ b. cond b None (K c)) e ∙ h.1, h.2)

  key_old : (o : Option Cell) → key_is_shared o ≡ true → newer_named o ≡ false
  unfolding newer_named
  key_old None e = refl
  key_old (Some c) e = global_is_old c s e

  value_old : (holder : Cell) (o : Option Cell) → value_is_shared holder o ≡ true → newer_named o ≡ false
  unfolding newer_named
  value_old holder None e = refl
  value_old holder (Some c) e = go (is_global c) refl e
    where
      go : (b : Bool) → is_global c ≡ b → (b || (is_system_dict holder && nat_eq c.section 0)) ≡ true → newer c s ≡ false
      go true g h = global_is_old c s g
      go false g h = start_is_old c s (eqb-true c.section 0 (second_so (is_system_dict holder) (nat_eq c.section 0) h)) above

  pub found_old : (holder : Cell) (t : Slot) (x : Found) → FitsFound K t x → SharedFound holder t x → FitsFound (without_newer s K) t x
  found_old holder (entry k) (is (value.Object x)) h g = (cell_old (cell_of_key k) (key_takes k) (key_old (cell_of_key k) g.0) h.0, cell_old (cell_named x.kind) (takes x.kind) (value_old holder (cell_named x.kind) g.1) h.1)
  found_old holder (item i) (is (value.Object x)) h g = cell_old (cell_named x.kind) (takes x.kind) (value_old holder (cell_named x.kind) g) h
  found_old holder _ _ h g = tt

-- ---- the keys of a dictionary

module _ (K : Shapes) where
  some_later : (b : Bool) (x : Object) (o : Option Object) → is_some o ≡ true → is_some (cond b (Some x) o) ≡ true
  some_later true x o e = refl
  some_later false x o e = e

  keys_of_list : (es : List (Key × Object)) → ((k : Key) → is_some (find key_cmp k es) ≡ true → FitsKey K k) → AllByRecursion (FitsKey K) (map (λ e. e.0) es)
  keys_of_list [] h = tt
  keys_of_list (e ∷ es) h = (
    h e.0 (ap (λ b. is_some (cond b (Some e.1) (find key_cmp e.0 es))) (key_itself e.0)),
    keys_of_list es (λ k i. h k (some_later (eq_by_cmp key_cmp k e.0) e.1 (find key_cmp k es) i)),
  )

  key_of : (k : Key) (o : Option Object) → FitsFound K (entry k) (object_found o) → is_some o ≡ true → FitsKey K k
  key_of k None h e = absurd (true≢false (sym e))
  key_of k (Some x) h e = h.0

  pub keys_fit : (es : FinMap key_cmp Object) → ((k : Key) → FitsFound K (entry k) (object_found (get es k))) → AllByRecursion (FitsKey K) (map (λ e. e.0) (entries es))
  keys_fit es h = keys_of_list (entries es) (λ k i. key_of k (get es k) (h k) (ap is_some (get-entries es k) ∙ i))
