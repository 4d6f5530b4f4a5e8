-- A write is taken back.
use Rattle.std.proofs.Common.{◌≡◌, ℕ, Bool, true, false, cond, List, Option, Some, None, refl, sym, ap, ◌∙◌, slice_get, replicate}
use Rattle.std.specs.FinMap.{FinMap, get, insert, remove, get-remove}
use Rattle.ps_objects.specs.declared.cell.Cell.{Cell}
use Rattle.ps_objects.specs.declared.place.Value.{Value}
use Rattle.ps_objects.specs.declared.place.Value.TheVariants as value
use Rattle.ps_objects.specs.declared.place.Shape.{Shape}
use Rattle.ps_objects.specs.declared.place.Shape.TheVariants as shape
use Rattle.ps_memory.specs.Order.{cell_cmp}
use Rattle.ps_memory.specs.Memory.{is_global, Content, dictionary, items, characters, CellMap, Memory, Slot, whole, held, byte, in_content, shape_in, part, with_part, put_content, put_byte, put_cell, do_store, content_of, new_bytes, do_fresh}
use Rattle.ps_memory.specs.Frame.{IsUnused}
use Rattle.ps_memory.specs.Ownership.{same_cell}
use Rattle.ps_memory.proofs.Order.{cells_total, cell_is}
use Rattle.ps_memory.proofs.Places.{mapped, put_at}
use Rattle.ps_memory.proofs.Keeping.{same_maps}
use Rattle.ps_memory.proofs.Replace.{put_put}
use Rattle.vm_content.specs.Back.{content_undone}
use Rattle.vm_content.specs.declared.before.Before.{Before}
use Rattle.vm_content.proofs.Back.{set_back, set_same, set_beyond}
use Rattle.vm_journal.specs.Part.{Part}
use Rattle.ps_memory.specs.Holders.{HaveHolders, holds_string}
use Rattle.vm_content.proofs.StringCells.{kinds_undone}
use Rattle.vm_committed.proofs.WholeStores.{local_strings, global_strings}
use Rattle.vm_committed.specs.Undo as undo
use Rattle.vm_committed.proofs.WholeMaking.{none_removed, taken_back}
use Rattle.vm_committed.specs.declared.undo.Undo.TheVariants.{Made, Byte}

-- ---- maps

module _ {X : Type 0} where
  pub put_back : (c : Cell) (f g : X → X) (m : FinMap cell_cmp X) (x : X) → get m c ≡ Some x → f (g x) ≡ x → put_cell c f (put_cell c g m) ≡ m
  put_back c f g m x e h = same_maps (put_cell c f (put_cell c g m)) m (λ q. put_put c c q f g m ∙ go q (same_cell q c) refl)
    where
      go : (q : Cell) (b : Bool) → same_cell q c ≡ b → cond b (mapped f (cond b (mapped g (get m q)) (get m q))) (cond b (mapped g (get m q)) (get m q)) ≡ get m q
      go q true i = let here = ap (get m) (cell_is q c i) ∙ e in ap (λ o. mapped f (mapped g o)) here ∙ ap Some h ∙ sym here
      go q false i = refl

  pub put_nowhere : (c : Cell) (f : X → X) (m : FinMap cell_cmp X) → get m c ≡ None → put_cell c f m ≡ m
  put_nowhere c f m e = ap (λ o. elim o as (λ _. FinMap cell_cmp X) [ None ↦ m | Some x ↦ insert m c (f x) ]) e

  put_same : (c : Cell) (f : X → X) (m : FinMap cell_cmp X) (x : X) → get m c ≡ Some x → f x ≡ x → put_cell c f m ≡ m
  put_same c f m x e h = same_maps (put_cell c f m) m (λ q. put_at c q f m ∙ go q (same_cell q c) refl)
    where
      go : (q : Cell) (b : Bool) → same_cell q c ≡ b → cond b (mapped f (get m q)) (get m q) ≡ get m q
      go q true i = let here = ap (get m) (cell_is q c i) ∙ e in ap (mapped f) here ∙ ap Some h ∙ sym here
      go q false i = refl

-- ---- parts

pub in_locals : (M : Memory) (c : Cell) (f : CellMap → CellMap) → is_global c ≡ false → with_part M c f ≡ record M { locals = f M.locals }
in_locals M c f e = ap (λ b. cond b (record M { globals = f M.globals }) (record M { locals = f M.locals })) e

pub in_globals : (M : Memory) (c : Cell) (f : CellMap → CellMap) → is_global c ≡ true → with_part M c f ≡ record M { globals = f M.globals }
in_globals M c f e = ap (λ b. cond b (record M { globals = f M.globals }) (record M { locals = f M.locals })) e

part_back : (M : Memory) (c : Cell) (f g : CellMap → CellMap) → f (g (part M c)) ≡ part M c → with_part (with_part M c g) c f ≡ M
part_back M c f g h = go (is_global c) h
  where
    go : (b : Bool) → f (g (cond b M.globals M.locals)) ≡ cond b M.globals M.locals
        → cond b (record (cond b (record M { globals = g M.globals }) (record M { locals = g M.locals })) { globals = f (cond b (record M { globals = g M.globals }) (record M { locals = g M.locals })).globals })
        (record (cond b (record M { globals = g M.globals }) (record M { locals = g M.locals })) { locals = f (cond b (record M { globals = g M.globals }) (record M { locals = g M.locals })).locals })
        ≡ M
    go true h = ap (λ m. record M { globals = m }) h
    go false h = ap (λ m. record M { locals = m }) h

part_same : (M : Memory) (c : Cell) (f : CellMap → CellMap) → f (part M c) ≡ part M c → with_part M c f ≡ M
part_same M c f h = go (is_global c) h
  where
    go : (b : Bool) → f (cond b M.globals M.locals) ≡ cond b M.globals M.locals → cond b (record M { globals = f M.globals }) (record M { locals = f M.locals }) ≡ M
    go true h = ap (λ m. record M { globals = m }) h
    go false h = ap (λ m. record M { locals = m }) h

-- ---- stores

pub held_back : (M : Memory) (c : Cell) (t : Slot) (v : Value) (b : Before) (x : Content) → Some x ≡ get (part M c) c → content_undone b (put_content t v x) ≡ x
    → with_part (with_part M c (put_cell c (put_content t v))) c (put_cell c (content_undone b)) ≡ M
held_back M c t v b x e h = part_back M c (put_cell c (content_undone b)) (put_cell c (put_content t v)) (put_back c (content_undone b) (put_content t v) (part M c) x (sym e) h)

pub held_nowhere : (M : Memory) (c : Cell) (t : Slot) (v : Value) → None ≡ get (part M c) c → do_store (held c t) v M ≡ M
held_nowhere M c t v e = part_same M c (put_cell c (put_content t v)) (put_nowhere c (put_content t v) (part M c) (sym e))

put_byte_back : (i : ℕ) (v : Value) (bs : List ℕ) (n : ℕ) → slice_get bs i ≡ Some n → put_byte i (value.Byte n) (put_byte i v bs) ≡ bs
put_byte_back i (value.Byte x) bs n e = set_back bs i x n e
put_byte_back i _ bs n e = set_same bs i n e

put_byte_beyond : (i : ℕ) (v : Value) (bs : List ℕ) → slice_get bs i ≡ None → put_byte i v bs ≡ bs
put_byte_beyond i (value.Byte x) bs e = set_beyond bs i x e
put_byte_beyond i _ bs e = refl

pub byte_back : (M : Memory) (c : Cell) (i : ℕ) (v : Value) (bs : List ℕ) (n : ℕ) → Some bs ≡ get M.strings c → Some n ≡ slice_get bs i → undo.write_undone (Byte c i n) (do_store (byte c i) v M) ≡ M
byte_back M c i v bs n e h = ap (λ m. record M { strings = m }) (put_back c (put_byte i (value.Byte n)) (put_byte i v) M.strings bs (sym e) (put_byte_back i v bs n (sym h)))

pub byte_beyond : (M : Memory) (c : Cell) (i : ℕ) (v : Value) (bs : List ℕ) → Some bs ≡ get M.strings c → None ≡ slice_get bs i → do_store (byte c i) v M ≡ M
byte_beyond M c i v bs e h = ap (λ m. record M { strings = m }) (put_same c (put_byte i v) M.strings bs (sym e) (put_byte_beyond i v bs (sym h)))

pub byte_nowhere : (M : Memory) (c : Cell) (i : ℕ) (v : Value) → None ≡ get M.strings c → do_store (byte c i) v M ≡ M
byte_nowhere M c i v e = ap (λ m. record M { strings = m }) (put_nowhere c (put_byte i v) M.strings (sym e))

-- ---- a new cell

missing : (o : Option Content) → shape_in (in_content o whole) ≡ None → o ≡ None
missing None e = refl
missing (Some (dictionary n a es)) e = cc
missing (Some (items xs)) e = cc
missing (Some (characters n)) e = cc

twice_removed : (c : Cell) (m : FinMap cell_cmp (List ℕ)) → get m c ≡ None → remove (remove m c) c ≡ m
twice_removed c m e = ap (λ n. remove n c) (none_removed m c e) ∙ none_removed m c e

bytes_back : (c : Cell) (sh : Shape) (m : FinMap cell_cmp (List ℕ)) → get m c ≡ None → remove (new_bytes c sh m) c ≡ m
bytes_back c (shape.Dict n) m e = twice_removed c m e
bytes_back c (shape.Array n) m e = twice_removed c m e
bytes_back c (shape.Str n) m e = taken_back m c (replicate n 0) e

made_back : (M : Memory) (c : Cell) (f g : CellMap → CellMap) (s t : FinMap cell_cmp (List ℕ)) → f (g (part M c)) ≡ part M c → t ≡ M.strings → record (with_part (record (with_part M c g) { strings = s }) c f) { strings = t } ≡ M
made_back M c f g s t h k = go (is_global c) h
  where
    after : Bool → Memory
    after b = record (cond b (record M { globals = g M.globals }) (record M { locals = g M.locals })) { strings = s }

    go : (b : Bool) → f (g (cond b M.globals M.locals)) ≡ cond b M.globals M.locals
        → record (cond b (record (after b) { globals = f (after b).globals }) (record (after b) { locals = f (after b).locals })) { strings = t } ≡ M
    go true h = λ i. record M { globals = h i; strings = k i }
    go false h = λ i. record M { locals = h i; strings = k i }

pub fresh_back : (M : Memory) (c : Cell) (sh : Shape) → IsUnused M c → HaveHolders M → undo.write_undone (Made c) (do_fresh c sh M) ≡ M
fresh_back M c sh unused holders =
    let none = missing (get (part M c) c) (unused c refl refl) in
    made_back M c (λ m. remove m c) (λ m. insert m c (content_of sh)) (new_bytes c sh M.strings) (remove (new_bytes c sh M.strings) c)
    (taken_back (part M c) c (content_of sh) none) (bytes_back c sh M.strings (holders c (ap holds_string none)))

-- ---- strings and their cells

pub holders_given_local : (M : Memory) (new : Part) (c : Cell) (b : Before) → new ≡ record { cells = put_cell c (content_undone b) M.locals; kept = M.kept } → HaveHolders M → HaveHolders (record M { locals = new.cells; kept = new.kept })
holders_given_local M new c b is h = local_strings M new (λ d. ap (λ (p : Part). holds_string (get p.cells d)) is ∙ kinds_undone c d b M.locals) h

pub holders_given_global : (M : Memory) (new : CellMap) (c : Cell) (b : Before) → new ≡ put_cell c (content_undone b) M.globals → HaveHolders M → HaveHolders (record M { globals = new })
holders_given_global M new c b is h = global_strings M new (λ d. ap (λ m. holds_string (get m d)) is ∙ kinds_undone c d b M.globals) h

-- a cell and its bytes are gone
less_holders : (M N : Memory) (c : Cell) → N.strings ≡ remove M.strings c → ((d : Cell) → same_cell d c ≡ false → get (part N d) d ≡ get (part M d) d) → HaveHolders M → HaveHolders N
less_holders M N c is other h d e = ap (λ m. get m d) is ∙ get-remove cells_total M.strings c d ∙ go (same_cell d c) refl
  where
    go : (b : Bool) → same_cell d c ≡ b → cond b None (get M.strings d) ≡ None
    go true i = refl
    go false i = h d (ap holds_string (sym (other d i)) ∙ e)

removed_other : (c d : Cell) (m n : CellMap) → n ≡ remove m c → same_cell d c ≡ false → get n d ≡ get m d
removed_other c d m n is i = ap (λ o. get o d) is ∙ get-remove cells_total m c d ∙ ap (λ b. cond b None (get m d)) i

pub holders_less_local : (M : Memory) (new : Part) (s : FinMap cell_cmp (List ℕ)) (c : Cell) → new ≡ record { cells = remove M.locals c; kept = M.kept } → s ≡ remove M.strings c → HaveHolders M
    → HaveHolders (record M { locals = new.cells; kept = new.kept; strings = s })
holders_less_local M new s c is gone h = less_holders M (record M { locals = new.cells; kept = new.kept; strings = s }) c gone (λ d i. go d i (is_global d)) h
  where
    go : (d : Cell) → same_cell d c ≡ false → (y : Bool) → get (cond y M.globals new.cells) d ≡ get (cond y M.globals M.locals) d
    go d i true = refl
    go d i false = removed_other c d M.locals new.cells (ap (λ (p : Part). p.cells) is) i

pub holders_less_global : (M : Memory) (new : CellMap) (s : FinMap cell_cmp (List ℕ)) (c : Cell) → new ≡ remove M.globals c → s ≡ remove M.strings c → HaveHolders M → HaveHolders (record M { globals = new; strings = s })
holders_less_global M new s c is gone h = less_holders M (record M { globals = new; strings = s }) c gone (λ d i. go d i (is_global d)) h
  where
    go : (d : Cell) → same_cell d c ≡ false → (y : Bool) → get (cond y new M.locals) d ≡ get (cond y M.globals M.locals) d
    go d i true = removed_other c d M.globals new is i
    go d i false = refl
