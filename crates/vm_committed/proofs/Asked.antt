-- What the conditions of calls say of a memory's parts.
use Rattle.std.proofs.Common.{◌≡◌, ℕ, Bool, true, false, not, cond, List, Option, Some, None, refl, sym, ap, ◌∙◌, subst, true≢false}
use Rattle.std.specs.Cmp.{first_so}
use Rattle.std.specs.FinMap.{FinMap, get}
use Rattle.std.specs.List.{AllByRecursion}
use Rattle.ps_objects.specs.declared.cell.Cell.{Cell}
use Rattle.ps_objects.specs.declared.cell.SaveName.{SaveName}
use Rattle.ps_memory.specs.Order.{cell_cmp}
use Rattle.ps_memory.specs.Memory.{is_global, newer, Content, dictionary, items, characters, CellMap, Memory, part, whole, in_content, shape_in}
use Rattle.ps_memory.specs.Frame.{later}
use Rattle.ps_memory.specs.Holders.{HaveHolders, holds_string}
use Rattle.vm_mem.specs.Conditions.{MayMake, MayOpen}
use Rattle.vm_mem.proofs.Conditions.{make_unused, open_newest, open_latest}

no_content : (o : Option Content) → shape_in (in_content o whole) ≡ None → o ≡ None
no_content None h = refl
no_content (Some (dictionary n a es)) h = cc
no_content (Some (items xs)) h = cc
no_content (Some (characters n)) h = cc

-- a new cell has no bytes
pub no_bytes : (M : Memory) (c : Cell) (strings : FinMap cell_cmp (List ℕ)) → MayMake M c → HaveHolders M → M.strings ≡ strings → get strings c ≡ None
no_bytes M c strings h holders e = ap (λ m. get m c) (sym e) ∙ holders c (ap holds_string (no_content (get (part M c) c) (make_unused M c h c refl refl)))

-- a new save is later than the open ones, and no local cell is newer
pub save_latest : (M : Memory) (s : SaveName) (kept : List (SaveName × CellMap)) → MayOpen M s → M.kept ≡ kept → AllByRecursion (λ k. later s k.0 ≡ true) kept
save_latest M s kept h e = subst (AllByRecursion (λ k. later s k.0 ≡ true)) e (open_latest M s h)

pub none_newer : (M : Memory) (s : SaveName) (m : CellMap) → MayOpen M s → M.locals ≡ m → (c : Cell) → newer c s ≡ true → get m c ≡ None
none_newer M s m h e c n = ap (λ x. get x c) (sym e) ∙ go (is_global c) refl (no_content (get (part M c) c) (open_newest M s h c n).0)
  where
    go : (b : Bool) → is_global c ≡ b → get (part M c) c ≡ None → get M.locals c ≡ None
    go true i p = absurd (true≢false (sym (first_so (not (is_global c)) _ n) ∙ ap not i))
    go false i p = ap (λ b. get (cond b M.globals M.locals) c) (sym i) ∙ p
