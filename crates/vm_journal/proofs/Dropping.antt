-- What closing a save takes away.
use Rattle.std.proofs.Common.{◌≡◌, ℕ, Bool, true, false, cond, ◌&&◌, not, List, [], ◌∷◌, Option, Some, None, IsSome, refl, sym, ap, ◌∙◌, subst, true≢false, length, ◌<◌, arith}
use Rattle.std.specs.FinMap.{FinMap, get, remove, retain_keys, from_entries, get-remove}
use Rattle.std.specs.Map.{lookup}
use Rattle.std.specs.BTreeMap.{BTreeMap, is_at, Updates, IsUpperBound}
use Rattle.ps_objects.specs.declared.cell.Cell.{Cell}
use Rattle.ps_objects.specs.declared.cell.SaveName.{SaveName}
use Rattle.ps_memory.specs.Order.{cell_cmp}
use Rattle.ps_memory.specs.Holders.{holds_string}
use Rattle.ps_memory.specs.Memory.{is_global, newer, Content, CellMap}
use Rattle.ps_memory.specs.Ownership.{same_cell}
use Rattle.ps_memory.proofs.Order.{cells_total}
use Rattle.ps_memory.proofs.Keeping.{keep_all, keep_change}
use Rattle.ps_objects.specs.Cell.{comes_after}
use Rattle.vm_content.proofs.Cells.{cell_found, cell_removed, last_is_greatest, newer_after, same_kept, all_kept, kept_removed}
use Rattle.vm_journal.specs.Part.{AreLocal, HaveCells, kept_from}
use Rattle.vm_content.specs.Maps.{cells_of}

-- some of the cells that come after a save are gone, each with its string
pub record Dropped (s : SaveName) (m : CellMap) (t : FinMap cell_cmp (List ℕ)) (n : CellMap) (u : FinMap cell_cmp (List ℕ)) : Type 0 where
  pub cells : retain_keys n (λ c. not (comes_after c s)) ≡ retain_keys m (λ c. not (comes_after c s))
  pub strings : kept_from s u ≡ kept_from s t
  pub are_local : AreLocal n
  pub have_cells : HaveCells u n

pub none_dropped : (s : SaveName) (m : CellMap) (t : FinMap cell_cmp (List ℕ)) → AreLocal m → HaveCells t m → Dropped s m t m t
none_dropped s m t a h = record { cells = refl; strings = refl; are_local = a; have_cells = h }

stands_local : (m : CellMap) (k : Cell) (x : Content) → AreLocal m → get m k ≡ Some x → is_global k ≡ false
stands_local m k x a e = go (is_global k) refl
  where
    go : (b : Bool) → is_global k ≡ b → b ≡ false
    go false i = refl
    go true i = no_some (sym e ∙ a k i)
      where
        no_some : Some x ≡ None → true ≡ false
        no_some e = cc

is_newer : (k : Cell) (s : SaveName) → is_global k ≡ false → comes_after k s ≡ true → newer k s ≡ true
is_newer k s g h = ap (λ b. not b && comes_after k s) g ∙ h

pub one_dropped : (s : SaveName) (m n : CellMap) (t u : FinMap cell_cmp (List ℕ)) (k : Cell) (x : Content) → Dropped s m t n u → get n k ≡ Some x → comes_after k s ≡ true → Dropped s m t (remove n k) (remove u k)
one_dropped s m n t u k x d e h = record {
  cells = kept_removed n k (λ c. not (comes_after c s)) (ap not h) ∙ d.cells;
  strings = keep_change s k u (remove u k) (is_newer k s (stands_local n k x d.are_local e) h) (λ q i. get-remove cells_total u k q ∙ ap (λ b. cond b None (get u q)) i) ∙ d.strings;
  are_local = λ q g. get-remove cells_total n k q ∙ gone (same_cell q k) (get n q) (d.are_local q g);
  have_cells = λ q g i. get-remove cells_total u k q ∙ absent q (same_cell q k) (ap holds_string (sym (get-remove cells_total n k q)) ∙ i) (d.have_cells q g);
}
  where
    gone : {X : Type 0} (b : Bool) (o : Option X) → o ≡ None → cond b None o ≡ None
    gone true o e = refl
    gone false o e = e

    absent : (q : Cell) (b : Bool) → holds_string (cond b None (get n q)) ≡ false → (holds_string (get n q) ≡ false → get u q ≡ None) → cond b None (get u q) ≡ None
    absent q true i f = refl
    absent q false i f = f i

same_tests : (m : CellMap) (s : SaveName) → AreLocal m → retain_keys m (λ c. not (comes_after c s)) ≡ kept_from s m
same_tests m s a = same_kept m (λ c. not (comes_after c s)) (λ c. not (newer c s)) (λ q i. go q (is_global q) refl i)
  where
    none_some : {X : Type 0} (o : Option X) → o ≡ None → IsSome o → (true ≡ false)
    none_some None e i = absurd (true≢false (sym i))
    none_some (Some x) e i = cc

    go : (q : Cell) (b : Bool) → is_global q ≡ b → IsSome (get m q) → not (comes_after q s) ≡ not (newer q s)
    go q true e i = absurd (true≢false (none_some (get m q) (a q e) i))
    go q false e i = sym (ap (λ b. not (not b && comes_after q s)) e)

pub all_dropped : (s : SaveName) (m n : CellMap) (t u : FinMap cell_cmp (List ℕ)) → AreLocal m → Dropped s m t n u → ((q : Cell) → IsSome (get n q) → comes_after q s ≡ false) → (n ≡ kept_from s m) × (u ≡ kept_from s t)
all_dropped s m n t u a d h = (
  sym (all_kept n (λ c. not (comes_after c s)) (λ q i. ap not (h q i))) ∙ d.cells ∙ same_tests m s a,
  sym (keep_all s u (λ q i. d.have_cells q (local q (is_global q) refl i) (ap holds_string (stays q i (get n q) refl)))) ∙ d.strings,
)
  where
    local : (q : Cell) (b : Bool) → is_global q ≡ b → newer q s ≡ true → is_global q ≡ false
    local q false e i = e
    local q true e i = absurd (true≢false (sym i ∙ ap (λ b. not b && comes_after q s) e))

    after : (q : Cell) (b : Bool) → is_global q ≡ b → newer q s ≡ true → comes_after q s ≡ true
    after q false e i = sym (ap (λ b. not b && comes_after q s) e) ∙ i
    after q true e i = absurd (true≢false (sym i ∙ ap (λ b. not b && comes_after q s) e))

    stays : (q : Cell) → newer q s ≡ true → (o : Option Content) → get n q ≡ o → get n q ≡ None
    stays q i None e = e
    stays q i (Some x) e = absurd (true≢false (sym (after q (is_global q) refl i) ∙ h q (subst IsSome (sym e) refl)))

-- ---- the same over the entries of maps

pub dropped_one : (s : SaveName) (m n o : BTreeMap Cell Content) (t u w : BTreeMap Cell (List ℕ)) (k : Cell) (x : Content)
    → Dropped s (cells_of m) (cells_of t) (from_entries n.entries) (from_entries u.entries)
    → lookup (is_at (cell_cmp k)) n.entries ≡ Some x → comes_after k s ≡ true → Updates cell_cmp n o k None → Updates cell_cmp u w k None
    → Dropped s (cells_of m) (cells_of t) (from_entries o.entries) (from_entries w.entries)
dropped_one s m n o t u w k x d e h f g =
    let next = one_dropped s (from_entries m.entries) (from_entries n.entries) (from_entries t.entries) (from_entries u.entries) k x d (cell_found n.entries k ∙ e) h in
    subst (λ (p : CellMap × FinMap cell_cmp (List ℕ)). Dropped s (from_entries m.entries) (from_entries t.entries) p.0 p.1)
    (λ i. (sym (cell_removed n.entries o.entries k f.0) i, sym (cell_removed u.entries w.entries k g.0) i)) next

pub dropped_all : (s : SaveName) (m n : BTreeMap Cell Content) (t u : BTreeMap Cell (List ℕ)) (k : Cell) → AreLocal (cells_of m)
    → Dropped s (cells_of m) (cells_of t) (from_entries n.entries) (from_entries u.entries)
    → IsUpperBound cell_cmp n k → comes_after k s ≡ false
    → (cells_of n ≡ kept_from s (from_entries m.entries)) × (cells_of u ≡ kept_from s (from_entries t.entries))
dropped_all s m n t u k a d bound old = all_dropped s (from_entries m.entries) (from_entries n.entries) (from_entries t.entries) (from_entries u.entries) a d (last_is_greatest n k s bound (λ new. true≢false (sym (newer_after k s new) ∙ old)))

nothing : {X : Type 0} (es : List (Cell × X)) (q : Cell) → ¬ (0 < length es) → IsSome (lookup (is_at (cell_cmp q)) es) → true ≡ false
nothing [] q h i = sym i
nothing (e ∷ es) q h i = absurd (h (omega arith))

none_dropped_more : (s : SaveName) (m n : BTreeMap Cell Content) (t u : BTreeMap Cell (List ℕ)) → AreLocal (cells_of m)
    → Dropped s (cells_of m) (cells_of t) (from_entries n.entries) (from_entries u.entries) → ¬ (0 < length n.entries)
    → (cells_of n ≡ kept_from s (from_entries m.entries)) × (cells_of u ≡ kept_from s (from_entries t.entries))
none_dropped_more s m n t u a d none = all_dropped s (from_entries m.entries) (from_entries n.entries) (from_entries t.entries) (from_entries u.entries) a d
    (λ q h. absurd (true≢false (nothing n.entries q none (subst IsSome (cell_found n.entries q) h))))

pub no_cell_left : (s : SaveName) (m n : BTreeMap Cell Content) (t u : BTreeMap Cell (List ℕ)) → AreLocal (cells_of m)
    → Dropped s (cells_of m) (cells_of t) (from_entries n.entries) (from_entries u.entries) → ¬ (0 < length n.entries)
    → cells_of n ≡ kept_from s (from_entries m.entries)
no_cell_left s m n t u a d none = (none_dropped_more s m n t u a d none).0

pub no_string_left : (s : SaveName) (m n : BTreeMap Cell Content) (t u : BTreeMap Cell (List ℕ)) → AreLocal (cells_of m)
    → Dropped s (cells_of m) (cells_of t) (from_entries n.entries) (from_entries u.entries) → ¬ (0 < length n.entries)
    → cells_of u ≡ kept_from s (from_entries t.entries)
no_string_left s m n t u a d none = (none_dropped_more s m n t u a d none).1
