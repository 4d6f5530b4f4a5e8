-- A memory with a new cell, by its parts.
use Rattle.std.proofs.Common.{◌≡◌, ℕ, Bool, true, false, cond, List, Some, None, refl, sym, ap, ◌∙◌, subst}
use Rattle.std.specs.Map.{lookup}
use Rattle.std.specs.BTreeMap.{is_at}
use Rattle.std.specs.FinMap.{FinMap, from_entries, get, insert, remove, get-insert, get-remove}
use Rattle.ps_objects.specs.declared.cell.Cell.{Cell}
use Rattle.ps_memory.specs.Order.{cell_cmp}
use Rattle.ps_memory.specs.Memory.{is_global, Content, CellMap, Memory, part, with_part}
use Rattle.ps_memory.specs.Ownership.{same_cell}
use Rattle.ps_memory.proofs.Order.{cells_total, cell_is}
use Rattle.ps_memory.proofs.Places.{part_here, part_other, insert_here, insert_other}
use Rattle.ps_memory.proofs.Keeping.{same_maps}
use Rattle.vm_content.proofs.Cells.{cell_inserted, cell_removed}
use Rattle.vm_journal.specs.Part.{Part}
use Rattle.ps_memory.specs.Holders.{HaveHolders, holds_string}

module _ {X : Type 0} where
  pub none_removed : (m : FinMap cell_cmp X) (c : Cell) → get m c ≡ None → remove m c ≡ m
  none_removed m c e = same_maps (remove m c) m (λ q. get-remove cells_total m c q ∙ go q (same_cell q c) refl)
    where
      go : (q : Cell) (b : Bool) → same_cell q c ≡ b → cond b None (get m q) ≡ get m q
      go q true i = sym (ap (get m) (cell_is q c i) ∙ e)
      go q false i = refl

  -- what is added and taken away again
  pub taken_back : (m : FinMap cell_cmp X) (c : Cell) (x : X) → get m c ≡ None → remove (insert m c x) c ≡ m
  taken_back m c x e = same_maps (remove (insert m c x) c) m (λ q. get-remove cells_total (insert m c x) c q ∙ ap (cond (same_cell q c) None) (get-insert cells_total m c x q) ∙ go q (same_cell q c) refl)
    where
      go : (q : Cell) (b : Bool) → same_cell q c ≡ b → cond b None (cond b (Some x) (get m q)) ≡ get m q
      go q true i = sym (ap (get m) (cell_is q c i) ∙ e)
      go q false i = refl

made_parts : (M : Memory) (new : Part) (globals : CellMap) (c : Cell) (x : Content)
    → new ≡ record { cells = cond (is_global c) M.locals (insert M.locals c x); kept = M.kept } → globals ≡ cond (is_global c) (insert M.globals c x) M.globals
    → (d : Cell) → get (cond (is_global d) globals new.cells) d ≡ get (part (with_part M c (λ m. insert m c x)) d) d
made_parts M new globals c x p q d = ap (λ (n : Part). get (cond (is_global d) globals n.cells) d) p ∙ ap (λ g. get (cond (is_global d) g (cond (is_global c) M.locals (insert M.locals c x))) d) q ∙ go (is_global c) (is_global d)
  where
    go : (a b : Bool) → get (cond b (cond a (insert M.globals c x) M.globals) (cond a M.locals (insert M.locals c x))) d
        ≡ get (cond b (cond a (record M { globals = insert M.globals c x }) (record M { locals = insert M.locals c x })).globals (cond a (record M { globals = insert M.globals c x }) (record M { locals = insert M.locals c x })).locals) d
    go true true = refl
    go true false = refl
    go false true = refl
    go false false = refl

-- the new cell stands: a string's, or one without bytes; and the bytes of others are as before
pub holders_made : (M : Memory) (new : Part) (globals : CellMap) (strings : FinMap cell_cmp (List ℕ)) (c : Cell) (x : Content)
    → new ≡ record { cells = cond (is_global c) M.locals (insert M.locals c x); kept = M.kept } → globals ≡ cond (is_global c) (insert M.globals c x) M.globals
    → (holds_string (Some x) ≡ false → get strings c ≡ None) → ((d : Cell) → same_cell d c ≡ false → get strings d ≡ get M.strings d) → HaveHolders M
    → HaveHolders (record M { locals = new.cells; globals = globals; strings = strings; kept = new.kept })
holders_made M new globals strings c x p q bare others h d e = go (same_cell d c) refl (ap holds_string (sym (made_parts M new globals c x p q d)) ∙ e)
  where
    f : CellMap → CellMap
    f = λ m. insert m c x

    there : get (part (with_part M c f) c) c ≡ Some x
    there = ap (λ m. get m c) (part_here c f M) ∙ insert_here c x (part M c)

    go : (b : Bool) → same_cell d c ≡ b → holds_string (get (part (with_part M c f) d) d) ≡ false → get strings d ≡ None
    go true i n = let same = cell_is d c i in ap (get strings) same ∙ bare (ap holds_string (sym there) ∙ subst (λ d. holds_string (get (part (with_part M c f) d) d) ≡ false) same n)
    go false i n = others d i ∙ h d (ap holds_string (sym (part_other c d f M (λ m. insert_other c d x m i))) ∙ n)

pub inserted_elsewhere : (m n : FinMap cell_cmp (List ℕ)) (c d : Cell) (bs : List ℕ) → n ≡ insert m c bs → same_cell d c ≡ false → get n d ≡ get m d
inserted_elsewhere m n c d bs is i = ap (λ k. get k d) is ∙ insert_other c d bs m i

pub put_and_taken : {X : Type 0} (es fs gs : List (Cell × X)) (k : Cell) (x : X) → get (from_entries {R = cell_cmp} es) k ≡ None
    → ((q : Cell) → lookup (is_at (cell_cmp q)) fs ≡ cond (is_at (cell_cmp k) q) (Some x) (lookup (is_at (cell_cmp q)) es))
    → ((q : Cell) → lookup (is_at (cell_cmp q)) gs ≡ cond (is_at (cell_cmp k) q) None (lookup (is_at (cell_cmp q)) fs)) → from_entries {R = cell_cmp} gs ≡ from_entries es
put_and_taken es fs gs k x e put taken = cell_removed fs gs k taken ∙ ap (λ m. remove m k) (cell_inserted es fs k x put) ∙ taken_back (from_entries es) k x e
