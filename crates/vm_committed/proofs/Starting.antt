-- The start memory is one of the type's.
use Rattle.std.proofs.Common.{◌≡◌, ℕ, Bool, true, false, cond, List, [], ◌∷◌, Some, None, refl, ap, sym, subst, ◌∙◌, true≢false}
use Rattle.std.specs.Prelude.{codes}
use Rattle.std.specs.List.{AllByRecursion}
use Rattle.std.specs.Map.{lookup}
use Rattle.std.specs.BTreeMap.{is_at}
use Rattle.std.specs.FinMap.{FinMap, get, from_entries}
use Rattle.ps_objects.specs.declared.cell.Cell.{Cell}
use Rattle.ps_memory.specs.Order.{cell_cmp}
use Rattle.ps_memory.specs.Memory.{is_global, CellMap, Memory, here, blank}
use Rattle.ps_memory.proofs.Order.{cell_is}
use Rattle.ps_memory.specs.Holders.{holds_string}
use Rattle.ps_objects.specs.declared.settings.Settings.{Settings}
use Rattle.ps_meaning.specs.Start.{version, product, start_locals, start_globals, start_strings, start_memory}
use Rattle.vm_content.proofs.Cells.{cell_found}
use Rattle.vm_journal.specs.Part.{AreLocal}

module _ {X : Type 0} where
  -- a global cell isn't among local ones
  local_entries : (es : List (Cell × X)) → AllByRecursion (λ e. is_global e.0 ≡ false) es → (c : Cell) → is_global c ≡ true → lookup (is_at (cell_cmp c)) es ≡ None
  local_entries [] h c g = refl
  local_entries (e ∷ es) h c g = go (is_at (cell_cmp c) e.0) refl (local_entries es h.1 c g)
    where
      go : (b : Bool) → is_at (cell_cmp c) e.0 ≡ b → lookup (is_at (cell_cmp c)) es ≡ None → cond b (Some e.1) (lookup (is_at (cell_cmp c)) es) ≡ None
      go true i rest = cc (ap is_global (cell_is c e.0 i), h.0, g)
      go false i rest = rest

pub are_local : (m : CellMap) → m ≡ from_entries start_locals → AreLocal m
are_local m h c g = ap (λ n. get n c) h ∙ cell_found start_locals c ∙ local_entries start_locals (refl, (refl, (refl, (refl, (refl, (refl, (refl, tt))))))) c g

version_held : holds_string (get (from_entries {R = cell_cmp} start_locals) version) ≡ true
version_held = ap holds_string (cell_found start_locals version)

product_held : holds_string (get (from_entries {R = cell_cmp} start_globals) product) ≡ true
product_held = ap holds_string (cell_found start_globals product)

pub have_holders : (l g : CellMap) (s : FinMap cell_cmp (List ℕ)) → l ≡ from_entries start_locals → g ≡ from_entries start_globals → s ≡ from_entries start_strings
    → (c : Cell) → holds_string (get (cond (is_global c) g l) c) ≡ false → get s c ≡ None
have_holders l g s p q r c n = ap (λ m. get m c) r ∙ cell_found start_strings c ∙ go (is_at (cell_cmp c) version) refl (is_at (cell_cmp c) product) refl
  where
    held_at : (d : Cell) → c ≡ d → holds_string (get (cond (is_global d) g l) d) ≡ false
    held_at d e = subst (λ d. holds_string (get (cond (is_global d) g l) d) ≡ false) e n

    go : (b : Bool) → is_at (cell_cmp c) version ≡ b → (q : Bool) → is_at (cell_cmp c) product ≡ q → cond b (Some (codes "page-rip")) (cond q (Some (codes "page-rip")) None) ≡ None
    go true i o j = absurd (true≢false (sym version_held ∙ ap (λ m. holds_string (get m version)) (sym p) ∙ held_at version (cell_is c version i)))
    go false i true j = absurd (true≢false (sym product_held ∙ ap (λ m. holds_string (get m product)) (sym q) ∙ held_at product (cell_is c product j)))
    go false i false j = refl

pub start_made : (M : Memory) (settings : Settings) → M.locals ≡ from_entries start_locals → M.globals ≡ from_entries start_globals → M.strings ≡ from_entries start_strings → M.rand ≡ 1 → M.page ≡ here (blank settings.width settings.height) → M.kept ≡ []
    → M ≡ start_memory settings
start_made M settings l g s r p k = λ i. record { locals = l i; globals = g i; strings = s i; rand = r i; page = p i; kept = k i }
