-- Closing the newest save gives its copy back.
use Rattle.std.proofs.Common.{◌≡◌, ℕ, Bool, true, false, cond, not, List, ◌∷◌, Option, Some, None, refl, sym, ap, ◌∙◌}
use Rattle.std.specs.Cmp.{first_so, second_so}
use Rattle.std.specs.FinMap.{FinMap, get}
use Rattle.ps_objects.specs.declared.cell.Cell.{Cell}
use Rattle.ps_objects.specs.declared.cell.SaveName.{SaveName}
use Rattle.ps_memory.specs.Order.{cell_cmp}
use Rattle.ps_memory.specs.Holders.{holds_string}
use Rattle.ps_memory.specs.Memory.{newer, CellMap}
use Rattle.ps_memory.proofs.Places.{kept_at}
use Rattle.vm_journal.specs.Journal.{Note, Saved, cells_reverted, as_saved, copies, is_latest, is_rising}
use Rattle.vm_journal.specs.Part.{Part, AreLocal, HaveCells, kept_from, Closes}
use Rattle.vm_journal.proofs.Parting.{names_latest}

none_kept : {X : Type 0} (s : SaveName) (c : Cell) (m : FinMap cell_cmp X) → get m c ≡ None → get (kept_from s m) c ≡ None
none_kept {X = X} s c m e = kept_at s c m ∙ go (not (newer c s)) (get m c) e
  where
    go : (b : Bool) (o : Option X) → o ≡ None → cond b o None ≡ None
    go true o e = e
    go false o e = refl

pub fewer_left : (s : SaveName) (t u : FinMap cell_cmp (List ℕ)) → u ≡ kept_from s t → (c : Cell) → get t c ≡ None → get u c ≡ None
fewer_left s t u e c h = ap (λ f. get f c) e ∙ none_kept s c t h

-- the cells are still local
pub closed_local : (saves rest : List Saved) (s : Saved) (name : SaveName) (m d n : CellMap) → saves ≡ s ∷ rest → d ≡ kept_from name m → ((c : Cell) → get d c ≡ None → get n c ≡ None)
    → AreLocal m × (is_rising saves ≡ true) → AreLocal n × (is_rising rest ≡ true)
closed_local saves rest s name m d n e k gone h =
    (λ c g. gone c (ap (λ f. get f c) k ∙ none_kept name c m (h.0 c g)), second_so _ _ (sym (ap is_rising e) ∙ h.1))

-- bytes that are left stand under strings
pub closed_cells : (p : Part) (name : SaveName) (m d n : CellMap) (t u : FinMap cell_cmp (List ℕ)) → p.cells ≡ m → d ≡ kept_from name m → ((c : Cell) → holds_string (get n c) ≡ holds_string (get d c))
    → u ≡ kept_from name t → HaveCells t p.cells → HaveCells u n
closed_cells p name m d n t u i k kinds e h c g o = ap (λ f. get f c) e ∙ kept_at name c t ∙ go (newer c name) refl
  where
    old : newer c name ≡ false → holds_string (get m c) ≡ false
    old w = ap holds_string (sym (kept_at name c m ∙ ap (λ b. cond (not b) (get m c) None) w) ∙ sym (ap (λ f. get f c) k)) ∙ sym (kinds c) ∙ o

    go : (b : Bool) → newer c name ≡ b → cond (not b) (get t c) None ≡ None
    go true w = refl
    go false w = h c g (ap (λ f. holds_string (get f c)) i ∙ old w)

pub closed : (p : Part) (saves rest : List Saved) (s : Saved) (name : SaveName) (notes : List Note) (m d n : CellMap) (t u : FinMap cell_cmp (List ℕ)) → ◌≡◌ {A = Part} (record { cells = m; kept = copies saves m }) p
    → saves ≡ s ∷ rest → name ≡ s.0 → notes ≡ s.1 → d ≡ kept_from name m → n ≡ cells_reverted notes d → u ≡ kept_from name t → is_rising saves ≡ true
    → Closes (Some name) p (record { cells = n; kept = copies rest n }) t u
closed p saves rest s name notes m d n t u v e a b k r w h = (
  sym (ap (λ (q : Part). q.kept) v) ∙ ap (λ ss. copies ss m) e ∙ ap (λ x. (s.0, x) ∷ copies rest x) (sym copy) ∙ ap (λ x. (x, n) ∷ copies rest n) (sym a),
  w,
  names_latest name rest n (ap (λ x. is_latest x rest) a ∙ first_so _ _ (sym (ap is_rising e) ∙ h)),
)
  where
    copy : n ≡ as_saved s m
    copy = r ∙ ap (λ x. cells_reverted x d) b ∙ ap (cells_reverted s.1) (k ∙ ap (λ x. kept_from x m) a)
