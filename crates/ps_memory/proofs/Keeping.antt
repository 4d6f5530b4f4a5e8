-- What is left of a map of cells when those newer than a save are gone.
use Rattle.std.proofs.Common.{◌≡◌, Bool, true, false, cond, not, Option, Some, None, refl, sym, ap, ◌∙◌}
use Rattle.std.specs.FinMap.{FinMap, get, insert, remove, retain_keys, get-insert, get-remove, same_map}
use Rattle.ps_objects.specs.declared.cell.Cell.{Cell}
use Rattle.ps_objects.specs.declared.cell.SaveName.{SaveName}
use Rattle.ps_memory.specs.Order.{cell_cmp}
use Rattle.ps_memory.specs.Memory.{newer, put_cell}
use Rattle.ps_memory.specs.Ownership.{same_cell}
use Rattle.ps_memory.proofs.Order.{cells_total, cells_antisymmetric, cell_is}
use Rattle.ps_memory.proofs.Places.{put_at, mapped, kept_at}

module _ {X : Type 0} where
  abbrev pub keep : SaveName → FinMap cell_cmp X → FinMap cell_cmp X
  keep s m = retain_keys m (λ c. not (newer c s))

  pub same_maps : (m n : FinMap cell_cmp X) → ((c : Cell) → get m c ≡ get n c) → m ≡ n
  same_maps m n h = same_map cells_total cells_antisymmetric m n h

  -- nothing is dropped where nothing is newer
  pub keep_all : (s : SaveName) (m : FinMap cell_cmp X) → ((c : Cell) → newer c s ≡ true → get m c ≡ None) → keep s m ≡ m
  keep_all s m h = same_maps (keep s m) m (λ c. kept_at s c m ∙ go c (newer c s) refl)
    where
      go : (c : Cell) (x : Bool) → newer c s ≡ x → cond (not x) (get m c) None ≡ get m c
      go c true e = sym (h c e)
      go c false e = refl

  -- a change at one cell
  pub keep_change : (s : SaveName) (c : Cell) (m n : FinMap cell_cmp X) → newer c s ≡ true → ((d : Cell) → same_cell d c ≡ false → get n d ≡ get m d) → keep s n ≡ keep s m
  keep_change s c m n h other = same_maps (keep s n) (keep s m) (λ d. kept_at s d n ∙ go d (same_cell d c) refl ∙ sym (kept_at s d m))
    where
      go : (d : Cell) (x : Bool) → same_cell d c ≡ x → cond (not (newer d s)) (get n d) None ≡ cond (not (newer d s)) (get m d) None
      go d true e = let late = ap (λ c. newer c s) (cell_is d c e) ∙ h in ap (λ b. cond (not b) (get n d) None) late ∙ sym (ap (λ b. cond (not b) (get m d) None) late)
      go d false e = ap (λ o. cond (not (newer d s)) o None) (other d e)

  pub keep_put : (s : SaveName) (c : Cell) (f : X → X) (m : FinMap cell_cmp X) → keep s (put_cell c f m) ≡ put_cell c f (keep s m)
  keep_put s c f m = same_maps (keep s (put_cell c f m)) (put_cell c f (keep s m)) (λ d.
      kept_at s d (put_cell c f m) ∙ ap (λ o. cond (not (newer d s)) o None) (put_at c d f m) ∙ go (newer d s) (same_cell d c) (get m d)
      ∙ ap (λ o. cond (same_cell d c) (mapped f o) o) (sym (kept_at s d m)) ∙ sym (put_at c d f (keep s m)))
    where
      go : (x y : Bool) (o : Option X) → cond (not x) (cond y (mapped f o) o) None ≡ cond y (mapped f (cond (not x) o None)) (cond (not x) o None)
      go true true o = refl
      go true false o = refl
      go false y o = refl

  pub keep_insert : (s : SaveName) (c : Cell) (b : X) (m : FinMap cell_cmp X) → newer c s ≡ false → keep s (insert m c b) ≡ insert (keep s m) c b
  keep_insert s c b m h = same_maps (keep s (insert m c b)) (insert (keep s m) c b) (λ d.
      kept_at s d (insert m c b) ∙ ap (λ o. cond (not (newer d s)) o None) (get-insert cells_total m c b d) ∙ go d (same_cell d c) refl
      ∙ ap (cond (same_cell d c) (Some b)) (sym (kept_at s d m)) ∙ sym (get-insert cells_total (keep s m) c b d))
    where
      go : (d : Cell) (x : Bool) → same_cell d c ≡ x → cond (not (newer d s)) (cond x (Some b) (get m d)) None ≡ cond x (Some b) (cond (not (newer d s)) (get m d) None)
      go d true e = ap (λ y. cond (not y) (Some b) None) (ap (λ c. newer c s) (cell_is d c e) ∙ h)
      go d false e = refl

  pub keep_remove : (s : SaveName) (c : Cell) (m : FinMap cell_cmp X) → keep s (remove m c) ≡ remove (keep s m) c
  keep_remove s c m = same_maps (keep s (remove m c)) (remove (keep s m) c) (λ d.
      kept_at s d (remove m c) ∙ ap (λ o. cond (not (newer d s)) o None) (get-remove cells_total m c d) ∙ go (newer d s) (same_cell d c) (get m d)
      ∙ ap (cond (same_cell d c) None) (sym (kept_at s d m)) ∙ sym (get-remove cells_total (keep s m) c d))
    where
      go : (x y : Bool) (o : Option X) → cond (not x) (cond y None o) None ≡ cond y None (cond (not x) o None)
      go true true o = refl
      go true false o = refl
      go false true o = refl
      go false false o = refl
