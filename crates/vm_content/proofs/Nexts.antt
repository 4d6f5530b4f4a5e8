-- The next cell of a map.
use Rattle.std.proofs.Common.{◌≡◌, ◌≢◌, ℕ, Bool, true, false, ◌&&◌, cond, List, [], ◌∷◌, Option, Some, None, refl, ap, sym, subst, ◌∙◌, ◌<◌, arith, true≢false}
use Rattle.std.specs.declared.cmp.Ordering.{Ordering}
use Rattle.std.specs.declared.cmp.Ordering.TheVariants.{Less, Equal, Greater}
use Rattle.std.specs.declared.ops.Bound.TheVariants.{Unbounded}
use Rattle.std.specs.Ordering.{MatchOrdering, nat_cmp, is_eq, is_lt, is_gt, ordering_then, ordering_reverse}
use Rattle.std.specs.Cmp.{ranks, tied_itself, first_so}
use Rattle.std.specs.List.{filter, AllByRecursion}
use Rattle.std.specs.List.Sorted.{IsStrictlySortedBy}
use Rattle.std.specs.Map.{keys_of, lookup}
use Rattle.std.specs.BTreeMap.{is_at}
use Rattle.std.specs.BTreeMap.Range.{range_contains, entries_between}
use Rattle.std.specs.FinMap.{from_entries}
use Rattle.std.proofs.lemmas.Map.Keys.{sorted_head, sorted_tail}
use Rattle.ps_objects.specs.declared.cell.Cell.{Cell}
use Rattle.ps_objects.specs.declared.cell.Space.{Space}
use Rattle.ps_objects.specs.declared.cell.Space.TheVariants.{Local, Global}
use Rattle.ps_objects.specs.declared.place.Shape.{Shape}
use Rattle.ps_objects.specs.contracts.cell.SpaceOrd.TheImpl as space_order
use Rattle.ps_memory.specs.Order.{cell_cmp}
use Rattle.ps_memory.specs.Memory.{Content, whole, in_content, shape_in}
use Rattle.ps_memory.proofs.Order.{cells_total, cell_is}
use Rattle.vm_content.proofs.Cells.{cell_found}
use Rattle.vm_content.specs.Next.{is_in, bound_after, first_where, IsNextIn}
use Rattle.ps_memory.specs.Next.{comes_before, is_after}

-- ---- the first entry that passes a test

not_at : (k e : Cell) → cell_cmp k e ≡ Less → is_at (cell_cmp e) k ≡ false
not_at k e h = ap is_eq (cells_total.antisymm e k ∙ ap ordering_reverse h)

module _ {X : Type 0} where
  -- a key that is there comes after one that is below all
  there_after : (k : Cell) (es : List (Cell × X)) → AllByRecursion (λ y. cell_cmp k y ≡ Less) (keys_of es) → (e : Cell) → lookup (is_at (cell_cmp e)) es ≢ None → cell_cmp k e ≡ Less
  there_after k [] h e n = absurd (n refl)
  there_after k (x ∷ es) h e n = go (is_at (cell_cmp e) x.0) refl n (there_after k es h.1 e)
    where
      go : (b : Bool) → is_at (cell_cmp e) x.0 ≡ b → cond b (Some x.1) (lookup (is_at (cell_cmp e)) es) ≢ None → (lookup (is_at (cell_cmp e)) es ≢ None → cell_cmp k e ≡ Less) → cell_cmp k e ≡ Less
      go true i n rest = ap (cell_cmp k) (cell_is e x.0 i) ∙ h.0
      go false i n rest = rest n

  filtered : (p q : Cell → Bool) (es : List (Cell × X)) → first_where q (filter (λ e. p e.0) es) ≡ first_where (λ c. p c && q c) es
  filtered p q [] = refl
  filtered p q (e ∷ es) = go (p e.0) (filtered p q es)
    where
      go : (b : Bool) → first_where q (filter (λ e. p e.0) es) ≡ first_where (λ c. p c && q c) es
          → first_where q (cond b (e ∷ filter (λ e. p e.0) es) (filter (λ e. p e.0) es)) ≡ cond (b && q e.0) (Some e) (first_where (λ c. p c && q c) es)
      go true rest = ap (cond (q e.0) (Some e)) rest
      go false rest = rest

  -- it is there, and what else passes comes after it
  abbrev IsFirst : (Cell → Bool) → List (Cell × X) → Option (Cell × X) → Type 0
  IsFirst p es None = (e : Cell) → p e ≡ true → lookup (is_at (cell_cmp e)) es ≡ None
  IsFirst p es (Some d) = (lookup (is_at (cell_cmp d.0)) es ≡ Some d.1) × (p d.0 ≡ true) × ((e : Cell) → p e ≡ true → lookup (is_at (cell_cmp e)) es ≢ None → is_gt (cell_cmp d.0 e) ≡ false)

  is_first : (p : Cell → Bool) (es : List (Cell × X)) → IsStrictlySortedBy cell_cmp (keys_of es) → IsFirst p es (first_where p es)
  is_first p [] h = λ e q. refl
  is_first p (x ∷ es) h = go (p x.0) refl (first_where p es) (is_first p es (sorted_tail cell_cmp x.0 (keys_of es) h))
    where
      later : (e : Cell) → lookup (is_at (cell_cmp e)) es ≢ None → cell_cmp x.0 e ≡ Less
      later = there_after x.0 es (sorted_head cell_cmp x.0 (keys_of es) h)

      after : (e : Cell) (b : Bool) → is_at (cell_cmp e) x.0 ≡ b → cond b (Some x.1) (lookup (is_at (cell_cmp e)) es) ≢ None → is_gt (cell_cmp x.0 e) ≡ false
      after e true i n = ap (λ c. is_gt (cell_cmp x.0 c)) (cell_is e x.0 i) ∙ ap is_gt (tied_itself cells_total x.0)
      after e false i n = ap is_gt (later e n)

      skipped : p x.0 ≡ false → (e : Cell) → p e ≡ true → (b : Bool) → is_at (cell_cmp e) x.0 ≡ b → lookup (is_at (cell_cmp e)) es ≡ None → cond b (Some x.1) (lookup (is_at (cell_cmp e)) es) ≡ None
      skipped i e q true at m = absurd (true≢false (sym q ∙ ap p (cell_is e x.0 at) ∙ i))
      skipped i e q false at m = m

      some_there : (d : Cell × X) → lookup (is_at (cell_cmp d.0)) es ≡ Some d.1 → lookup (is_at (cell_cmp d.0)) es ≢ None
      some_there d r n = cc

      go : (b : Bool) → p x.0 ≡ b → (o : Option (Cell × X)) → IsFirst p es o → IsFirst p (x ∷ es) (cond b (Some x) o)
      go true i o r = (ap (λ b. cond b (Some x.1) (lookup (is_at (cell_cmp x.0)) es)) (ap is_eq (tied_itself cells_total x.0)), i, λ e q n. after e (is_at (cell_cmp e) x.0) refl n)
      go false i None r = λ e q. skipped i e q (is_at (cell_cmp e) x.0) refl (r e q)
      go false i (Some d) r = (ap (λ b. cond b (Some x.1) (lookup (is_at (cell_cmp d.0)) es)) (not_at x.0 d.0 (later d.0 (some_there d r.0))) ∙ r.0, r.1, λ e q n. r.2 e q (λ m. n (skipped i e q (is_at (cell_cmp e) x.0) refl m)))

-- ---- the order without the spaces

after_bound : (c : Option Cell) (e : Cell) → range_contains cell_cmp (bound_after c) Unbounded e ≡ is_after c e
after_bound None e = refl
after_bound (Some c) e = go (nat_cmp c.section e.section) (nat_cmp c.count e.count) e.space
  where
    go : (q r : Ordering) (s : Space) → (is_lt (ordering_then q (ordering_then r (space_order.ghosts.cmp Global s))) && true) ≡ is_lt (ordering_then q r)
    go Less r s = refl
    go Greater r s = refl
    go Equal Less s = refl
    go Equal Greater s = refl
    go Equal Equal Local = refl
    go Equal Equal Global = refl

abbrev Says : Ordering → ℕ → ℕ → Type 0
Says r m n = MatchOrdering r (m < n) (m ≡ n) (n < m)

behind : (d e : Cell) → is_gt (cell_cmp d e) ≡ false → comes_before e d ≡ false
behind d e = go (nat_cmp d.section e.section) (nat_cmp d.count e.count) (nat_cmp e.section d.section) (nat_cmp e.count d.count) (ranks d.section e.section) (ranks d.count e.count) (ranks e.section d.section) (ranks e.count d.count)
  where
    go : (q r t u : Ordering) → Says q d.section e.section → Says r d.count e.count → Says t e.section d.section → Says u e.count d.count
        → is_gt (ordering_then q (ordering_then r (space_order.ghosts.cmp d.space e.space))) ≡ false → is_lt (ordering_then t u) ≡ false
    go q r Greater u a b c f h = refl
    go q r Equal Greater a b c f h = refl
    go q r Equal Equal a b c f h = refl
    go Greater r Less u a b c f h = absurd (true≢false h)
    go Less r Less u a b c f h = absurd (omega (arith, a, c))
    go Equal r Less u a b c f h = absurd (omega (arith, a, c))
    go Greater r Equal Less a b c f h = absurd (true≢false h)
    go Less r Equal Less a b c f h = absurd (omega (arith, a, c))
    go Equal Greater Equal Less a b c f h = absurd (true≢false h)
    go Equal Less Equal Less a b c f h = absurd (omega (arith, b, f))
    go Equal Equal Equal Less a b c f h = absurd (omega (arith, b, f))

-- ---- the next cell

abbrev passes : Space → Option Cell → Cell → Bool
passes s after c = range_contains cell_cmp (bound_after after) Unbounded c && is_in s c

pub next_found : (s : Space) (after : Option Cell) (es rest : List (Cell × Content)) (c : Cell) (x : Content) (sh : Shape) → IsStrictlySortedBy cell_cmp (keys_of es)
    → first_where (is_in s) ((c, x) ∷ rest) ≡ first_where (is_in s) (entries_between cell_cmp (bound_after after) Unbounded es) → is_in s c ≡ true → shape_in (in_content (Some x) whole) ≡ Some sh
    → IsNextIn s (from_entries {R = cell_cmp} es) after (Some (c, sh))
next_found s after es rest c x sh sorted first is shaped =
    let found : first_where (passes s after) es ≡ Some (c, x) = sym (filtered (range_contains cell_cmp (bound_after after) Unbounded) (is_in s) es) ∙ sym first ∙ ap (λ b. cond b (Some (c, x)) (first_where (is_in s) rest)) is in
    let f : IsFirst (passes s after) es (Some (c, x)) = subst (IsFirst (passes s after) es) found (is_first (passes s after) es sorted) in (
      ap (λ o. shape_in (in_content o whole)) (cell_found es c ∙ f.0) ∙ shaped,
      is,
      sym (after_bound after c) ∙ first_so _ _ f.1,
      λ e i n a. behind c e (f.2 e (ap (λ b. b && is_in s e) (after_bound after e ∙ a) ∙ i) (λ m. n (cell_found es e ∙ m))),
    )

pub none_next : (s : Space) (after : Option Cell) (es : List (Cell × Content)) → IsStrictlySortedBy cell_cmp (keys_of es)
    → None ≡ first_where (is_in s) (entries_between cell_cmp (bound_after after) Unbounded es) → IsNextIn s (from_entries {R = cell_cmp} es) after None
none_next s after es sorted first e i n = go (is_after after e) refl
  where
    f : IsFirst (passes s after) es None
    f = subst (IsFirst (passes s after) es) (sym (filtered (range_contains cell_cmp (bound_after after) Unbounded) (is_in s) es) ∙ sym first) (is_first (passes s after) es sorted)

    go : (b : Bool) → is_after after e ≡ b → b ≡ false
    go true a = absurd (n (cell_found es e ∙ f e (ap (λ b. b && is_in s e) (after_bound after e ∙ a) ∙ i)))
    go false a = refl
