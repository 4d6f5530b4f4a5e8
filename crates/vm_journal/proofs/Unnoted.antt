-- Changes that need no note, since no save is open.
use Rattle.std.proofs.Common.{◌≡◌, suc, Bool, true, false, cond, List, [], ◌∷◌, ◌++◌, ◌==◌, length, reverse, Option, None, refl, sym, ap, ◌∙◌, arith}
use Rattle.std.proofs.lemmas.List.{reverse-append}
use Rattle.std.specs.FinMap.{get, remove, get-remove}
use Rattle.ps_objects.specs.declared.cell.Cell.{Cell}
use Rattle.ps_memory.specs.Memory.{Content, CellMap, put_cell}
use Rattle.ps_memory.specs.Ownership.{same_cell}
use Rattle.ps_memory.proofs.Order.{cells_total}
use Rattle.ps_memory.proofs.Places.{mapped, put_at}
use Rattle.vm_content.specs.Back.{content_undone}
use Rattle.vm_content.specs.declared.before.Before.{Before}
use Rattle.vm_journal.specs.Journal.{Saved, copies}
use Rattle.vm_journal.specs.Part.{Part, AreLocal, is_empty}

-- ---- whether one is open

no_copies : (saves : List Saved) (m : CellMap) → is_empty (copies saves m) ≡ is_empty saves
no_copies [] m = refl
no_copies (s ∷ saves) m = refl

end_empty : {X : Type 0} (xs : List X) (x : X) → is_empty (xs ++ x ∷ []) ≡ false
end_empty [] x = refl
end_empty (y ∷ xs) x = refl

turned_empty : {X : Type 0} (xs : List X) → is_empty (reverse xs) ≡ (length xs == 0)
turned_empty [] = refl
turned_empty (x ∷ xs) = ap is_empty (reverse-append (x ∷ []) xs) ∙ end_empty (reverse xs) x ∙ none xs
  where
    none : {X : Type 0} (xs : List X) → false ≡ (suc (length xs) == 0)
    none xs = grind arith

pub none_kept : (saves : List Saved) (m : CellMap) → is_empty (copies (reverse saves) m) ≡ (length saves == 0)
none_kept saves m = no_copies (reverse saves) m ∙ turned_empty saves

-- ---- the cells, with none open

no_saves : (saves : List Saved) (m : CellMap) → copies saves m ≡ [] → saves ≡ []
no_saves [] m e = refl
no_saves (s ∷ saves) m e = cc

part_changed : (p : Part) (saves : List Saved) (m n : CellMap) (f : CellMap → CellMap) → ◌≡◌ {A = Part} (record { cells = m; kept = copies saves m }) p → p.kept ≡ [] → n ≡ f m
    → ◌≡◌ {A = Part} (record { cells = n; kept = copies saves n }) (record { cells = f p.cells; kept = p.kept })
part_changed p saves m n f e none h =
    let closed = no_saves saves m (ap (λ (q : Part). q.kept) e ∙ none) in
    let same = h ∙ ap f (ap (λ (q : Part). q.cells) e) in
    let gone = ap (λ ss. copies ss n) closed ∙ sym none in
    λ i. record { cells = same i; kept = gone i }

pub part_given : (p : Part) (saves : List Saved) (m n : CellMap) (c : Cell) (b : Before) → ◌≡◌ {A = Part} (record { cells = m; kept = copies saves m }) p → p.kept ≡ [] → n ≡ put_cell c (content_undone b) m
    → ◌≡◌ {A = Part} (record { cells = n; kept = copies saves n }) (record { cells = put_cell c (content_undone b) p.cells; kept = p.kept })
part_given p saves m n c b e none h = part_changed p saves m n (put_cell c (content_undone b)) e none h

pub part_forgotten : (p : Part) (saves : List Saved) (m n : CellMap) (c : Cell) → ◌≡◌ {A = Part} (record { cells = m; kept = copies saves m }) p → p.kept ≡ [] → n ≡ remove m c
    → ◌≡◌ {A = Part} (record { cells = n; kept = copies saves n }) (record { cells = remove p.cells c; kept = p.kept })
part_forgotten p saves m n c e none h = part_changed p saves m n (λ x. remove x c) e none h

pub local_given : (m n : CellMap) (c : Cell) (f : Content → Content) → n ≡ put_cell c f m → AreLocal m → AreLocal n
local_given m n c f e h q i = ap (λ o. get o q) e ∙ put_at c q f m ∙ ap (λ o. cond (same_cell q c) (mapped f o) o) (h q i) ∙ go (same_cell q c)
  where
    go : (b : Bool) → cond b (mapped f None) None ≡ None
    go true = refl
    go false = refl

pub local_forgotten : (m n : CellMap) (c : Cell) → n ≡ remove m c → AreLocal m → AreLocal n
local_forgotten m n c e h q i = ap (λ o. get o q) e ∙ get-remove cells_total m c q ∙ ap (λ o. cond (same_cell q c) None o) (h q i) ∙ go (same_cell q c)
  where
    go : (b : Bool) → ◌≡◌ {A = Option Content} (cond b None None) None
    go true = refl
    go false = refl
