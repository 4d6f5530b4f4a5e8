-- A memory with a value stored, by its parts.
use Rattle.std.proofs.Common.{◌≡◌, ℕ, Bool, true, false, cond, List, None, Result, Ok, Err, OnOk, OnErr, refl, sym, ap, ◌∙◌}
use Rattle.std.specs.FinMap.{FinMap, get}
use Rattle.ps_objects.specs.declared.cell.Cell.{Cell}
use Rattle.ps_objects.specs.declared.place.Value.{Value}
use Rattle.ps_memory.specs.Order.{cell_cmp}
use Rattle.ps_memory.specs.Memory.{is_global, CellMap, Memory, Slot, Spot, held, put_content, put_byte, put_cell}
use Rattle.ps_memory.specs.Ownership.{same_cell}
use Rattle.ps_memory.specs.Holders.{HaveHolders, holds_string}
use Rattle.ps_memory.proofs.Places.{mapped, put_at}
use Rattle.vm_content.specs.Content.{put_held}
use Rattle.vm_content.proofs.StringCells.{kinds_held}
use Rattle.vm_journal.specs.Part.{Part}

-- the same cells are strings'
abbrev pub SameStrings : CellMap → CellMap → Type 0
SameStrings m n = (d : Cell) → holds_string (get m d) ≡ holds_string (get n d)

pub local_strings : (M : Memory) (new : Part) → SameStrings new.cells M.locals → HaveHolders M → HaveHolders (record M { locals = new.cells; kept = new.kept })
local_strings M new k h d e = h d (go (is_global d) e)
  where
    go : (y : Bool) → holds_string (get (cond y M.globals new.cells) d) ≡ false → holds_string (get (cond y M.globals M.locals) d) ≡ false
    go true e = e
    go false e = sym (k d) ∙ e

pub global_strings : (M : Memory) (new : CellMap) → SameStrings new M.globals → HaveHolders M → HaveHolders (record M { globals = new })
global_strings M new k h d e = h d (go (is_global d) e)
  where
    go : (y : Bool) → holds_string (get (cond y new M.locals) d) ≡ false → holds_string (get (cond y M.globals M.locals) d) ≡ false
    go true e = sym (k d) ∙ e
    go false e = e

-- what is left by a call that stores a value, or by one that fails
strings_left : {A E : Type 0} (r : Result A E) (m n : CellMap) (p : Spot) (v : Value) → OnOk r (n ≡ put_held p v m) → OnErr r (n ≡ m) → SameStrings n m
strings_left (Ok a) m n p v ok err d = ap (λ o. holds_string (get o d)) ok ∙ kinds_held p d v m
strings_left (Err e) m n p v ok err d = ap (λ o. holds_string (get o d)) err

cells_put : {A E : Type 0} (r : Result A E) (m n : Part) → OnOk r (n ≡ m) → OnOk r (n.cells ≡ m.cells)
cells_put (Ok a) m n h = ap (λ (p : Part). p.cells) h
cells_put (Err e) m n h = tt

cells_same : {A E : Type 0} (r : Result A E) (m n : Part) → OnErr r (n ≡ m) → OnErr r (n.cells ≡ m.cells)
cells_same (Ok a) m n h = tt
cells_same (Err e) m n h = ap (λ (p : Part). p.cells) h

pub holders_local : {A E : Type 0} (r : Result A E) (M : Memory) (new : Part) (c : Cell) (t : Slot) (v : Value)
    → OnOk r (new ≡ record { cells = put_cell c (put_content t v) M.locals; kept = M.kept }) → OnErr r (new ≡ record { cells = M.locals; kept = M.kept })
    → HaveHolders M → HaveHolders (record M { locals = new.cells; kept = new.kept })
holders_local r M new c t v ok err h =
    local_strings M new (strings_left r M.locals new.cells (held c t) v (cells_put r (record { cells = put_cell c (put_content t v) M.locals; kept = M.kept }) new ok) (cells_same r (record { cells = M.locals; kept = M.kept }) new err)) h

pub holders_global : {A E : Type 0} (r : Result A E) (M : Memory) (new : CellMap) (p : Spot) (v : Value) → OnOk r (new ≡ put_held p v M.globals) → OnErr r (new ≡ M.globals) → HaveHolders M → HaveHolders (record M { globals = new })
holders_global r M new p v ok err h = global_strings M new (strings_left r M.globals new p v ok err) h

put_gone : {X : Type 0} (c d : Cell) (f : X → X) (m : FinMap cell_cmp X) → get m d ≡ None → get (put_cell c f m) d ≡ None
put_gone c d f m e = put_at c d f m ∙ ap (λ o. cond (same_cell d c) (mapped f o) o) e ∙ go (same_cell d c)
  where
    go : (b : Bool) → cond b (mapped f None) None ≡ None
    go true = refl
    go false = refl

pub holders_byte : (M : Memory) (new : FinMap cell_cmp (List ℕ)) (c : Cell) (i : ℕ) (v : Value) → new ≡ put_cell c (put_byte i v) M.strings → HaveHolders M → HaveHolders (record M { strings = new })
holders_byte M new c i v is h d e = ap (λ m. get m d) is ∙ put_gone c d (put_byte i v) M.strings (h d e)
