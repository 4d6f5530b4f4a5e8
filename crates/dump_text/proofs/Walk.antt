-- The walk over the cells that stand.
use Rattle.std.proofs.Common.{◌≡◌, ◌≢◌, ℕ, ◌<◌, Bool, true, false, cond, ◌&&◌, ◌||◌, T, List, [], ◌∷◌, ◌++◌, map, length, Option, Some, None, is_some, refl, ap, sym, ◌∙◌, subst, true≢false, append-nil, append_assoc, arith}
use Rattle.std.specs.Prelude.{flat_map}
use Rattle.std.specs.List.{filter, list_any}
use Rattle.std.specs.declared.cmp.Ordering.{Ordering}
use Rattle.std.specs.declared.cmp.Ordering.TheVariants.{Less, Equal, Greater}
use Rattle.std.specs.Ordering.{nat_cmp, is_lt, is_eq, eq_by_cmp, ordering_then, ordering_reverse}
use Rattle.std.specs.Cmp.{IsTotalOrder, tied_itself}
use Rattle.std.proofs.lemmas.Cmp.{then_total, on_total, nat_cmp_total}
use Rattle.std.specs.FinMap.{FinMap, get, entries, entries_sorted, from_entries, get-entries, get-from_entries, find, is_sorted, contains_key-keys, nat_cmp-IsAntisymmetric}
use Rattle.std.specs.FinMap.Entries.{below_all}
use Rattle.ps_objects.specs.declared.cell.Cell.{Cell}
use Rattle.ps_objects.specs.declared.place.Shape.{Shape}
use Rattle.ps_memory.specs.Memory.{is_global, Content, dictionary, items, characters, Memory, whole, in_content, shape_in, shape_at}
use Rattle.ps_memory.specs.Next.{comes_before, is_after, IsNext}
use Rattle.ps_memory.specs.Order.{cell_cmp}
use Rattle.ps_memory.proofs.Order.{cells_total, cell_is}
use Rattle.ps_meaning.specs.Sound.{IsUnique}
use Rattle.dump_text.specs.Cells.{all_names, cell_lines, cells_of, lines_of, shape_lines, stands}

-- ---- filters

filter_yes : {X : Type 0} (p : X → Bool) (x : X) (xs : List X) → p x ≡ true → filter p (x ∷ xs) ≡ x ∷ filter p xs
filter_yes p x xs h = ap (λ b. cond b (x ∷ filter p xs) (filter p xs)) h

filter_no : {X : Type 0} (p : X → Bool) (x : X) (xs : List X) → p x ≡ false → filter p (x ∷ xs) ≡ filter p xs
filter_no p x xs h = ap (λ b. cond b (x ∷ filter p xs) (filter p xs)) h

filter_all : {X : Type 0} (xs : List X) → filter (λ x. true) xs ≡ xs
filter_all [] = refl
filter_all (x ∷ xs) = ap (λ ys. x ∷ ys) (filter_all xs)

and_first : (a b : Bool) → T (a && b) → a ≡ true
and_first true b h = refl
and_first false b h = absurd h

and_second : (a b : Bool) → T (a && b) → T b
and_second true b h = h
and_second false b h = absurd h

or_right : (a b : Bool) → a ≡ false → a || b ≡ true → b ≡ true
or_right true b e h = absurd (true≢false e)
or_right false b e h = h

holds : (b : Bool) → b ≡ true → T b
holds true h = tt
holds false h = absurd (true≢false (sym h))

-- ---- the order of the names

name_cmp : Cell → Cell → Ordering
name_cmp c d = ordering_then (nat_cmp c.section d.section) (nat_cmp c.count d.count)

names_total : IsTotalOrder name_cmp
unfolding name_cmp
names_total = then_total (on_total (λ c. c.section) nat_cmp_total) (on_total (λ c. c.count) nat_cmp_total)

less : (r : Ordering) → is_lt r ≡ true → r ≡ Less
less Less h = refl
less Equal h = absurd (true≢false (sym h))
less Greater h = absurd (true≢false (sym h))

before_trans : (c d e : Cell) → comes_before c d ≡ true → comes_before d e ≡ true → comes_before c e ≡ true
unfolding name_cmp
before_trans c d e h k = ap is_lt (names_total.trans c d e (less (name_cmp c d) h) (less (name_cmp d e) k))

not_back : (c d : Cell) → comes_before c d ≡ true → comes_before d c ≡ false
unfolding name_cmp
not_back c d h = ap is_lt (names_total.antisymm d c) ∙ ap (λ r. is_lt (ordering_reverse r)) (less (name_cmp c d) h)

not_itself : (c : Cell) → comes_before c c ≡ false
unfolding name_cmp
not_itself c = ap is_lt (tied_itself names_total c)

not_greater : (a r : Ordering) → ordering_then a r ≡ Less → a ≡ Greater → false ≡ true
not_greater Greater r l e = ap is_lt l
not_greater Equal r l e = cc
not_greater Less r l e = cc

not_above : (a b t : Ordering) → ordering_then a (ordering_then b t) ≡ Less → a ≡ Equal → b ≡ Greater → false ≡ true
not_above Equal Greater t l s e = ap is_lt l
not_above Equal Equal t l s e = cc
not_above Equal Less t l s e = cc
not_above Less b t l s e = cc
not_above Greater b t l s e = cc

module _ (M : Memory) where
  stood : (c : Cell) → stands M c ≡ true → shape_at M c ≢ None
  stood c h n = true≢false (sym h ∙ ap is_some n)

  -- the cells that stand, of those of a list of entries
  abbrev standing_in : {X : Type 0} → List (Cell × X) → List Cell
  standing_in es = filter (stands M) (map (λ e. e.0) es)

  -- what comes after a cell, or all
  abbrev pub cells_after : Option Cell → List Cell
  cells_after last = filter (is_after last) (cells_of M)

  pub all_after : cells_after None ≡ cells_of M
  all_after = filter_all (cells_of M)

  none_among : {X : Type 0} (last : Option Cell) → ((e : Cell) → shape_at M e ≢ None → is_after last e ≡ false) → (es : List (Cell × X)) → filter (is_after last) (standing_in es) ≡ []
  none_among last n [] = refl
  none_among {X} last n (e ∷ es) = go (stands M e.0) refl (none_among last n es)
    where
      go : (b : Bool) → stands M e.0 ≡ b → ((filter (is_after last) (standing_in es)) ≡ []) → filter (is_after last) (standing_in (e ∷ es)) ≡ []
      go true h r = ap (filter (is_after last)) (filter_yes (stands M) e.0 (map (λ e. e.0) es) h) ∙ filter_no (is_after last) e.0 (standing_in es) (n e.0 (stood e.0 h)) ∙ r
      go false h r = ap (filter (is_after last)) (filter_no (stands M) e.0 (map (λ e. e.0) es) h) ∙ r

  pub no_more : (last : Option Cell) → IsNext M last None → cells_after last ≡ []
  unfolding cells_of
  no_more last n = none_among last n (entries (from_entries {R = cell_cmp} (entries M.locals ++ entries M.globals)))

  found_content : (o : Option Content) → is_some (shape_in (in_content o whole)) ≡ true → is_some o ≡ true
  found_content None h = h
  found_content (Some x) h = refl

  -- the part to which a cell belongs has it, where it stands
  shape_in_part : Bool → Cell → Option Shape
  shape_in_part b c = shape_in (in_content (get (cond b M.globals M.locals) c) whole)

  among_names : (c : Cell) → stands M c ≡ true → is_some (find cell_cmp c (entries M.locals ++ entries M.globals)) ≡ true
  unfolding shape_in_part
  among_names c h = go (is_global c) refl
    where
      joined : {X : Type 0} (xs ys : List (Cell × X)) → is_some (find cell_cmp c (xs ++ ys)) ≡ is_some (find cell_cmp c xs) || is_some (find cell_cmp c ys)
      joined [] ys = refl
      joined (x ∷ xs) ys = elim (eq_by_cmp cell_cmp c x.0) as (λ b. is_some (cond b (Some x.1) (find cell_cmp c (xs ++ ys))) ≡ is_some (cond b (Some x.1) (find cell_cmp c xs)) || is_some (find cell_cmp c ys)) [ true ↦ refl | false ↦ joined xs ys ]

      either : (a b : Bool) → b ≡ true → a || b ≡ true
      either true b h = refl
      either false b h = h

      within : (b : Bool) → is_global c ≡ b → is_some (get (cond b M.globals M.locals) c) ≡ true
      within b i = found_content (get (cond b M.globals M.locals) c) (ap (λ b. is_some (shape_in_part b c)) (sym i) ∙ h)

      go : (b : Bool) → is_global c ≡ b → is_some (find cell_cmp c (entries M.locals ++ entries M.globals)) ≡ true
      go true i = joined (entries M.locals) (entries M.globals) ∙ either _ _ (ap is_some (sym (get-entries M.globals c)) ∙ within true i)
      go false i = joined (entries M.locals) (entries M.globals) ∙ ap (λ a. a || is_some (find cell_cmp c (entries M.globals))) (ap is_some (sym (get-entries M.locals c)) ∙ within false i)

  is_among : (c : Cell) → stands M c ≡ true → list_any (eq_by_cmp cell_cmp c) (all_names M) ≡ true
  is_among c h =
      sym (contains_key-keys (from_entries {R = cell_cmp} (entries M.locals ++ entries M.globals)) c)
      ∙ ap is_some (get-from_entries cells_total (entries M.locals ++ entries M.globals) c) ∙ among_names c h

  module _ (unique : IsUnique (shape_at M)) where
    -- of two cells that stand the lower comes before the higher, since they don't differ in their spaces alone
    comes_lower : (c d : Cell) → stands M c ≡ true → stands M d ≡ true → cell_cmp c d ≡ Less → comes_before c d ≡ true
    comes_lower c d h k l = sections (nat_cmp c.section d.section) refl
      where
        counts : (r : Ordering) → nat_cmp c.section d.section ≡ Equal → nat_cmp c.count d.count ≡ r → is_lt r ≡ true
        counts Less s e = refl
        counts Equal s e =
            let same : c ≡ d = unique c d (stood c h) (stood d k) (nat_cmp-IsAntisymmetric c.section d.section s) (nat_cmp-IsAntisymmetric c.count d.count e) in
            absurd (true≢false (sym (ap is_lt (ap (cell_cmp c) same ∙ l)) ∙ ap is_lt (tied_itself cells_total c)))
        counts Greater s e = not_above (nat_cmp c.section d.section) (nat_cmp c.count d.count) _ l s e

        sections : (r : Ordering) → nat_cmp c.section d.section ≡ r → comes_before c d ≡ true
        sections Less e = ap (λ r. is_lt (ordering_then r (nat_cmp c.count d.count))) e
        sections Equal e = ap (λ r. is_lt (ordering_then r (nat_cmp c.count d.count))) e ∙ counts (nat_cmp c.count d.count) e refl
        sections Greater e = absurd (true≢false (sym (not_greater (nat_cmp c.section d.section) _ l e)))

    -- all that stands above a cell passes a test that what comes after the cell passes
    all_pass : {X : Type 0} (p : Cell → Bool) (c : Cell) → stands M c ≡ true → ((e : Cell) → comes_before c e ≡ true → p e ≡ true) → (es : List (Cell × X)) → T (below_all cell_cmp c es) →
        filter p (standing_in es) ≡ standing_in es
    all_pass p c h t [] b = refl
    all_pass {X} p c h t (e ∷ es) b = go (stands M e.0) refl (all_pass p c h t es (and_second (is_lt (cell_cmp c e.0)) (below_all cell_cmp c es) b))
      where
        go : (s : Bool) → stands M e.0 ≡ s → filter p (standing_in es) ≡ standing_in es → filter p (standing_in (e ∷ es)) ≡ standing_in (e ∷ es)
        go true k r =
            let here = filter_yes (stands M) e.0 (map (λ e. e.0) es) k in
            let lower = comes_lower c e.0 h k (less (cell_cmp c e.0) (and_first (is_lt (cell_cmp c e.0)) (below_all cell_cmp c es) b)) in
            ap (filter p) here ∙ filter_yes p e.0 (standing_in es) (t e.0 lower) ∙ ap (λ xs. e.0 ∷ xs) r ∙ sym here
        go false k r =
            let here = filter_no (stands M) e.0 (map (λ e. e.0) es) k in
            ap (filter p) here ∙ r ∙ sym here

    above_all : (last : Option Cell) (c : Cell) → is_after last c ≡ true → (e : Cell) → comes_before c e ≡ true → is_after last e ≡ true
    above_all None c h e k = refl
    above_all (Some l) c h e k = before_trans l c e h k

    next_among : {X : Type 0} (last : Option Cell) (c : Cell) → stands M c ≡ true → is_after last c ≡ true
        → ((e : Cell) → shape_at M e ≢ None → is_after last e ≡ true → comes_before e c ≡ false)
        → (es : List (Cell × X)) → T (is_sorted cell_cmp es) → list_any (eq_by_cmp cell_cmp c) (map (λ e. e.0) es) ≡ true
        → filter (is_after last) (standing_in es) ≡ c ∷ filter (comes_before c) (standing_in es)
    next_among last c h a n [] s i = absurd (true≢false (sym i))
    next_among {X} last c h a n (e ∷ es) s i =
        go (stands M e.0) (eq_by_cmp cell_cmp c e.0) refl refl (λ j. next_among last c h a n es (and_second (below_all cell_cmp e.0 es) (is_sorted cell_cmp es) s) j)
      where
        below : below_all cell_cmp e.0 es ≡ true
        below = and_first (below_all cell_cmp e.0 es) (is_sorted cell_cmp es) s

        -- it is the first
        this_one : stands M e.0 ≡ true → c ≡ e.0 → filter (is_after last) (standing_in (e ∷ es)) ≡ c ∷ filter (comes_before c) (standing_in (e ∷ es))
        this_one k same =
            let here = filter_yes (stands M) e.0 (map (λ e. e.0) es) k in
            let under : T (below_all cell_cmp c es) = holds _ (ap (λ x. below_all cell_cmp x es) same ∙ below) in
            let after = all_pass (is_after last) c h (above_all last c a) es under in
            let later = all_pass (comes_before c) c h (λ e k. k) es under in
            ap (filter (is_after last)) here ∙ filter_yes (is_after last) e.0 (standing_in es) (ap (is_after last) (sym same) ∙ a)
            ∙ ap (λ x. x ∷ filter (is_after last) (standing_in es)) (sym same) ∙ ap (λ xs. c ∷ xs) (after ∙ sym later)
            ∙ ap (λ xs. c ∷ xs) (sym (ap (filter (comes_before c)) here ∙ filter_no (comes_before c) e.0 (standing_in es) (ap (comes_before c) (sym same) ∙ not_itself c)))

        -- it comes later, and the first doesn't come after the last one
        a_later : stands M e.0 ≡ true → comes_before e.0 c ≡ true → filter (is_after last) (standing_in es) ≡ c ∷ filter (comes_before c) (standing_in es) → filter (is_after last) (standing_in (e ∷ es)) ≡ c ∷ filter (comes_before c) (standing_in (e ∷ es))
        a_later k l r =
            let here = filter_yes (stands M) e.0 (map (λ e. e.0) es) k in
            ap (filter (is_after last)) here ∙ filter_no (is_after last) e.0 (standing_in es) (not_after (is_after last e.0) refl) ∙ r
            ∙ ap (λ xs. c ∷ xs) (sym (ap (filter (comes_before c)) here ∙ filter_no (comes_before c) e.0 (standing_in es) (not_back e.0 c l)))
          where
            not_after : (b : Bool) → is_after last e.0 ≡ b → b ≡ false
            not_after false q = refl
            not_after true q = absurd (true≢false (sym l ∙ n e.0 (stood e.0 k) q))

        -- the first doesn't stand
        fallen : stands M e.0 ≡ false → filter (is_after last) (standing_in es) ≡ c ∷ filter (comes_before c) (standing_in es) → filter (is_after last) (standing_in (e ∷ es)) ≡ c ∷ filter (comes_before c) (standing_in (e ∷ es))
        fallen k r =
            let here = filter_no (stands M) e.0 (map (λ e. e.0) es) k in
            ap (filter (is_after last)) here ∙ r ∙ ap (λ xs. c ∷ xs) (sym (ap (filter (comes_before c)) here))

        in_rest : eq_by_cmp cell_cmp c e.0 ≡ false → list_any (eq_by_cmp cell_cmp c) (map (λ e. e.0) es) ≡ true
        in_rest t = or_right (eq_by_cmp cell_cmp c e.0) _ t i

        under_here : (xs : List (Cell × X)) → T (below_all cell_cmp e.0 xs) → list_any (eq_by_cmp cell_cmp c) (map (λ e. e.0) xs) ≡ true → cell_cmp e.0 c ≡ Less
        under_here [] b j = absurd (true≢false (sym j))
        under_here (x ∷ xs) b j = pick (eq_by_cmp cell_cmp c x.0) refl (λ m. under_here xs (and_second (is_lt (cell_cmp e.0 x.0)) (below_all cell_cmp e.0 xs) b) m)
          where
            pick : (t : Bool) → eq_by_cmp cell_cmp c x.0 ≡ t → (list_any (eq_by_cmp cell_cmp c) (map (λ e. e.0) xs) ≡ true → cell_cmp e.0 c ≡ Less) → cell_cmp e.0 c ≡ Less
            pick true t f = ap (cell_cmp e.0) (cell_is c x.0 t) ∙ less (cell_cmp e.0 x.0) (and_first (is_lt (cell_cmp e.0 x.0)) (below_all cell_cmp e.0 xs) b)
            pick false t f = f (or_right (eq_by_cmp cell_cmp c x.0) _ t j)

        go : (s t : Bool) → stands M e.0 ≡ s → eq_by_cmp cell_cmp c e.0 ≡ t
            → (list_any (eq_by_cmp cell_cmp c) (map (λ e. e.0) es) ≡ true → filter (is_after last) (standing_in es) ≡ c ∷ filter (comes_before c) (standing_in es)) → filter (is_after last) (standing_in (e ∷ es)) ≡ c ∷ filter (comes_before c) (standing_in (e ∷ es))
        go true true k t r = this_one k (cell_is c e.0 t)
        go true false k t r = a_later k (comes_lower e.0 c k h (under_here es (holds _ below) (in_rest t))) (r (in_rest t))
        go false true k t r = absurd (true≢false (sym h ∙ ap (stands M) (cell_is c e.0 t) ∙ k))
        go false false k t r = fallen k (r (in_rest t))

    pub next_cell : (last : Option Cell) (c : Cell) (sh : Shape) → IsNext M last (Some (c, sh)) → cells_after last ≡ c ∷ cells_after (Some c)
    unfolding cells_of
    next_cell last c sh n =
        let h : stands M c ≡ true = ap is_some n.0 in
        next_among last c h n.1 n.2 (entries (from_entries {R = cell_cmp} (entries M.locals ++ entries M.globals)))
        (entries_sorted (from_entries {R = cell_cmp} (entries M.locals ++ entries M.globals))) (is_among c h)

-- ---- the texts of the cells

module _ (S M : Memory) where
  -- one more cell was told
  pub one_cell : IsUnique (shape_at M) → (last : Option Cell) (c : Cell) (sh : Shape) (text after full : List ℕ) → IsNext M last (Some (c, sh)) → after ≡ text ++ shape_lines S M c sh
      → text ++ flat_map (cell_lines S M) (cells_after M last) ≡ full → after ++ flat_map (cell_lines S M) (cells_after M (Some c)) ≡ full
  unfolding cell_lines
  one_cell unique last c sh text after full n a w =
      let told : shape_lines S M c sh ≡ cell_lines S M c = sym (ap (lines_of S M c) n.0) in
      let rest = flat_map (cell_lines S M) (cells_after M (Some c)) in
      ap (λ s. s ++ rest) (a ∙ ap (λ s. text ++ s) told) ∙ append_assoc text (cell_lines S M c) rest
      ∙ ap (λ cs. text ++ flat_map (cell_lines S M) cs) (sym (next_cell M unique last c sh n)) ∙ w

  -- all were told
  pub all_cells : (last : Option Cell) (text full : List ℕ) → IsNext M last None → text ++ flat_map (cell_lines S M) (cells_after M last) ≡ full → text ≡ full
  all_cells last text full n w = sym (append-nil text) ∙ ap (λ cs. text ++ flat_map (cell_lines S M) cs) (sym (no_more M last n)) ∙ w

pub fewer : (M : Memory) → IsUnique (shape_at M) → (last : Option Cell) (c : Cell) (sh : Shape) → IsNext M last (Some (c, sh)) → length (cells_after M (Some c)) < length (cells_after M last)
fewer M unique last c sh n = omega (arith, ap length (next_cell M unique last c sh n))
