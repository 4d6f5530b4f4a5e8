-- Maps from cells, by the entries of a `BTreeMap`.
use Rattle.std.proofs.Common.{◌≡◌, Bool, true, false, cond, List, Option, Some, None, IsSome, refl, ap, sym, subst, ◌∙◌, ◌<◌, inl, inr, ◌⊎◌, arith, true≢false}
use Rattle.std.specs.declared.cmp.Ordering.{Ordering}
use Rattle.std.specs.declared.cmp.Ordering.TheVariants.{Less, Equal, Greater}
use Rattle.std.specs.Ordering.{MatchOrdering, nat_cmp, is_eq, is_lt, is_gt, ordering_then}
use Rattle.std.specs.Cmp.{ranks, nat_cmp_is}
use Rattle.std.specs.Map.{lookup}
use Rattle.std.specs.BTreeMap.{BTreeMap, is_at, Updates, WritesThrough, IsUpperBound}
use Rattle.std.specs.FinMap.{FinMap, from_entries, get, insert, remove, retain_keys, get-remove, get-retain_keys, same_map}
use Rattle.ps_objects.specs.declared.cell.Cell.{Cell}
use Rattle.ps_objects.specs.declared.cell.SaveName.{SaveName}
use Rattle.ps_objects.specs.contracts.cell.SpaceOrd.TheImpl as space_order
use Rattle.ps_memory.specs.Order.{cell_cmp}
use Rattle.ps_memory.proofs.Places.{mapped, put_at}
use Rattle.ps_memory.specs.Memory.{put_cell}
use Rattle.ps_memory.proofs.Order.{cells_total, cells_antisymmetric, cell_is}
use Rattle.ps_objects.specs.Cell.{comes_after}
use Rattle.vm_content.proofs.Keyed.{get_entries, one_inserted, one_removed}
use Rattle.vm_content.specs.Maps.{cells_of}

-- made in a later section, or later in the section of the save
abbrev pub IsNewer : Cell → SaveName → Type 0
IsNewer cell save = (save.section < cell.section) ⊎ ((cell.section ≡ save.section) × (save.count < cell.count))

-- a cell that comes after the save, seen as a test
pub newer_after : (c : Cell) (s : SaveName) → IsNewer c s → comes_after c s ≡ true
newer_after c s (inl h) = ap (λ r. is_gt (ordering_then r (nat_cmp c.count s.count))) (sym (nat_cmp_is c.section s.section Greater h))
newer_after c s (inr h) = ap (λ r. is_gt (ordering_then r (nat_cmp c.count s.count))) (sym (nat_cmp_is c.section s.section Equal h.0)) ∙ ap is_gt (sym (nat_cmp_is c.count s.count Greater h.1))

after_newer : (c : Cell) (s : SaveName) → comes_after c s ≡ true → IsNewer c s
after_newer c s = go (nat_cmp c.section s.section) (nat_cmp c.count s.count) (ranks c.section s.section) (ranks c.count s.count)
  where
    go : (q r : Ordering) → MatchOrdering q (c.section < s.section) (c.section ≡ s.section) (s.section < c.section) → MatchOrdering r (c.count < s.count) (c.count ≡ s.count) (s.count < c.count)
        → is_gt (ordering_then q r) ≡ true → IsNewer c s
    go Greater r a b e = inl a
    go Equal Greater a b e = inr (a, b)
    go Equal Equal a b e = absurd (true≢false (sym e))
    go Equal Less a b e = absurd (true≢false (sym e))
    go Less r a b e = absurd (true≢false (sym e))

not_after : (c : Cell) (s : SaveName) → ¬ (IsNewer c s) → comes_after c s ≡ false
not_after c s h = go (comes_after c s) refl
  where
    go : (b : Bool) → comes_after c s ≡ b → b ≡ false
    go true e = absurd (h (after_newer c s e))
    go false e = refl

-- a cell that isn't below a newer one is newer too
newer_below : (c q : Cell) (s : SaveName) → is_lt (cell_cmp c q) ≡ false → IsNewer q s → IsNewer c s
newer_below c q s = go (nat_cmp c.section q.section) (nat_cmp c.count q.count) (ranks c.section q.section) (ranks c.count q.count)
  where
    go : (a b : Ordering) → MatchOrdering a (c.section < q.section) (c.section ≡ q.section) (q.section < c.section) → MatchOrdering b (c.count < q.count) (c.count ≡ q.count) (q.count < c.count)
        → is_lt (ordering_then a (ordering_then b (space_order.ghosts.cmp c.space q.space))) ≡ false → IsNewer q s → IsNewer c s
    go Less b h i e n = absurd (true≢false e)
    go Equal Less h i e n = absurd (true≢false e)
    go Greater b h i e (inl n) = inl (omega arith)
    go Greater b h i e (inr n) = inl (omega (arith, n.0))
    go Equal Greater h i e (inl n) = inl (omega arith)
    go Equal Greater h i e (inr n) = inr (omega (arith, n.0), omega (arith, n.1))
    go Equal Equal h i e (inl n) = inl (omega arith)
    go Equal Equal h i e (inr n) = inr (omega (arith, n.0), omega (arith, n.1))

module _ {X : Type 0} where
  pub cell_found : (es : List (Cell × X)) (q : Cell) → get (from_entries {R = cell_cmp} es) q ≡ lookup (is_at (cell_cmp q)) es
  cell_found es q = get_entries cells_total es q

  pub cell_inserted : (es fs : List (Cell × X)) (k : Cell) (x : X) → ((q : Cell) → lookup (is_at (cell_cmp q)) fs ≡ cond (is_at (cell_cmp k) q) (Some x) (lookup (is_at (cell_cmp q)) es)) → from_entries {R = cell_cmp} fs ≡ insert (from_entries es) k x
  cell_inserted = one_inserted cells_total cells_antisymmetric

  pub cell_removed : (es fs : List (Cell × X)) (k : Cell) → ((q : Cell) → lookup (is_at (cell_cmp q)) fs ≡ cond (is_at (cell_cmp k) q) None (lookup (is_at (cell_cmp q)) es)) → from_entries {R = cell_cmp} fs ≡ remove (from_entries es) k
  cell_removed = one_removed cells_total cells_antisymmetric

  abbrev put_found : (es : List (Cell × X)) → Cell → (X → X) → Option X → FinMap cell_cmp X
  put_found es k f o = elim o as (λ _. FinMap cell_cmp X) [ None ↦ from_entries es | Some x ↦ insert (from_entries es) k (f x) ]

  -- y is written at k, where x was
  pub cell_changed : (es fs : List (Cell × X)) (k : Cell) (x y : X) (f : X → X) → lookup (is_at (cell_cmp k)) es ≡ Some x → y ≡ f x
      → ((q : Cell) → lookup (is_at (cell_cmp q)) fs ≡ cond (is_at (cell_cmp k) q) (Some y) (lookup (is_at (cell_cmp q)) es))
      → from_entries {R = cell_cmp} fs ≡ put_cell k f (from_entries es)
  cell_changed es fs k x y f was is h = cell_inserted es fs k y h ∙ ap (insert (from_entries es) k) is ∙ sym (ap (put_found es k f) (cell_found es k ∙ was))

  -- the same, from what `get_mut` says
  pub cell_written : (m n : BTreeMap Cell X) (k : Cell) (x y : X) (f : X → X) → Some x ≡ lookup (is_at (cell_cmp k)) m.entries → y ≡ f x
      → WritesThrough cell_cmp (cell_cmp k) m y n → cells_of n ≡ put_cell k f (from_entries m.entries)
  cell_written m n k x y f was is h = cell_changed m.entries n.entries k x y f (sym was) is (h.3 (subst IsSome was refl)).0

  pub cell_missing : (es : List (Cell × X)) (k : Cell) (f : X → X) → lookup (is_at (cell_cmp k)) es ≡ None → put_cell k f (from_entries {R = cell_cmp} es) ≡ from_entries es
  cell_missing es k f was = ap (put_found es k f) (cell_found es k ∙ was)

  itself_mapped : (o : Option X) → mapped (λ x. x) o ≡ o
  itself_mapped None = refl
  itself_mapped (Some x) = refl

  put_itself : (k : Cell) (m : FinMap cell_cmp X) → put_cell k (λ x. x) m ≡ m
  put_itself k m = same_map cells_total cells_antisymmetric (put_cell k (λ x. x) m) m (λ q. put_at k q (λ x. x) m ∙ go q (is_eq (cell_cmp q k)))
    where
      go : (q : Cell) (b : Bool) → cond b (mapped (λ x. x) (get m q)) (get m q) ≡ get m q
      go q true = itself_mapped (get m q)
      go q false = refl

  -- what is written as it was changes nothing
  pub cell_unchanged : (m n : BTreeMap Cell X) (k : Cell) (x y : X) → Some x ≡ lookup (is_at (cell_cmp k)) m.entries → y ≡ x
      → WritesThrough cell_cmp (cell_cmp k) m y n → from_entries {R = cell_cmp} n.entries ≡ from_entries m.entries
  cell_unchanged m n k x y was is h = cell_written m n k x y (λ x. x) was is h ∙ put_itself k (from_entries m.entries)

  -- ---- which cells are kept

  nothing : (b : Bool) → ◌≡◌ {A = Option X} (cond b None None) None
  nothing true = refl
  nothing false = refl

  pub get_kept : (m : FinMap cell_cmp X) (p : Cell → Bool) (q : Cell) → get (retain_keys m p) q ≡ cond (p q) (get m q) None
  get_kept m p q = get-retain_keys m p q (λ x h. ap p (sym (cells_antisymmetric q x h)))

  -- tests that agree on the cells of a map keep the same of them
  pub same_kept : (m : FinMap cell_cmp X) (p r : Cell → Bool) → ((q : Cell) → IsSome (get m q) → p q ≡ r q) → retain_keys m p ≡ retain_keys m r
  same_kept m p r h = same_map cells_total cells_antisymmetric (retain_keys m p) (retain_keys m r) (λ q. get_kept m p q ∙ go q (get m q) refl ∙ sym (get_kept m r q))
    where
      go : (q : Cell) (o : Option X) → get m q ≡ o → cond (p q) o None ≡ cond (r q) o None
      go q (Some x) e = ap (λ b. cond b (Some x) None) (h q (subst IsSome (sym e) refl))
      go q None e = nothing (p q) ∙ sym (nothing (r q))

  pub all_kept : (m : FinMap cell_cmp X) (p : Cell → Bool) → ((q : Cell) → IsSome (get m q) → p q ≡ true) → retain_keys m p ≡ m
  all_kept m p h = same_map cells_total cells_antisymmetric (retain_keys m p) m (λ q. get_kept m p q ∙ go q (get m q) refl)
    where
      go : (q : Cell) (o : Option X) → get m q ≡ o → cond (p q) o None ≡ o
      go q (Some x) e = ap (λ b. cond b (Some x) None) (h q (subst IsSome (sym e) refl))
      go q None e = nothing (p q)

  -- a cell that isn't kept may go first
  pub kept_removed : (m : FinMap cell_cmp X) (k : Cell) (p : Cell → Bool) → p k ≡ false → retain_keys (remove m k) p ≡ retain_keys m p
  kept_removed m k p h = same_map cells_total cells_antisymmetric (retain_keys (remove m k) p) (retain_keys m p) (λ q.
      get_kept (remove m k) p q ∙ ap (λ o. cond (p q) o None) (get-remove cells_total m k q) ∙ go q (is_eq (cell_cmp q k)) refl ∙ sym (get_kept m p q))
    where
      go : (q : Cell) (b : Bool) → is_eq (cell_cmp q k) ≡ b → cond (p q) (cond b None (get m q)) None ≡ cond (p q) (get m q) None
      go q true e = ap (λ b. cond b None None) (ap p (cell_is q k e) ∙ h) ∙ sym (ap (λ b. cond b (get m q) None) (ap p (cell_is q k e) ∙ h))
      go q false e = refl

  -- ---- the last cell of a map

  pub last_popped : (m n : BTreeMap Cell X) (k : Cell) → Updates cell_cmp m n k None → cells_of n ≡ remove (from_entries m.entries) k
  last_popped m n k h = cell_removed m.entries n.entries k h.0

  -- where the last cell doesn't come after a save, none does
  pub last_is_greatest : (m : BTreeMap Cell X) (k : Cell) (s : SaveName) → IsUpperBound cell_cmp m k → ¬ (IsNewer k s) → (q : Cell) → IsSome (get (cells_of m) q) → comes_after q s ≡ false
  last_is_greatest m k s bound old q h = not_after q s (λ n. old (newer_below k q s (bound q (subst IsSome (cell_found m.entries q) h)) n))
