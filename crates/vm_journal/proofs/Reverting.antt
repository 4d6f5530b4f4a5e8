-- What was noted is put back.
use Rattle.std.proofs.Common.{◌≡◌, List, [], ◌∷◌, length, None, refl, sym, ap, ◌∙◌, arith}
use Rattle.std.specs.FinMap.{get}
use Rattle.ps_objects.specs.declared.cell.Cell.{Cell}
use Rattle.ps_objects.specs.declared.place.Loc.{Loc}
use Rattle.ps_objects.specs.declared.place.Value.{Value}
use Rattle.ps_memory.specs.Holders.{holds_string}
use Rattle.vm_content.proofs.StringCells.{kinds_held}
use Rattle.ps_memory.specs.Memory.{CellMap, spot_of}
use Rattle.vm_journal.specs.Journal.{Note, cells_reverted}
use Rattle.vm_content.specs.Content.{put_held}
use Rattle.vm_journal.proofs.Parting.{none_held}

-- some of the notes are put back, and the cells and their kinds are those that were there
pub record Reverting (m : CellMap) (notes : List Note) (n : CellMap) (rest : List Note) : Type 0 where
  pub result : cells_reverted rest n ≡ cells_reverted notes m
  pub kinds : (c : Cell) → holds_string (get n c) ≡ holds_string (get m c)
  pub gone : (c : Cell) → get m c ≡ None → get n c ≡ None

pub nothing_reverted : (m : CellMap) (notes : List Note) → Reverting m notes m notes
nothing_reverted m notes = record { result = refl; kinds = λ c. refl; gone = λ c e. e }

pub one_reverted : (m n o : CellMap) (notes before rest : List Note) (l : Loc) (v : Value) → Reverting m notes n before → before ≡ (l, v) ∷ rest → o ≡ put_held (spot_of l) v n → Reverting m notes o rest
one_reverted m n o notes before rest l v r e h = record {
  result = ap (cells_reverted rest) h ∙ sym (ap (λ es. cells_reverted es n) e) ∙ r.result;
  kinds = λ c. ap (λ k. holds_string (get k c)) h ∙ kinds_held (spot_of l) c v n ∙ r.kinds c;
  gone = λ c i. ap (λ k. get k c) h ∙ none_held (spot_of l) c v n (r.gone c i);
}

empty_list : {X : Type 0} (xs : List X) → length xs ≡ 0 → xs ≡ []
empty_list [] e = refl
empty_list (x ∷ xs) e = absurd (omega arith)

pub all_reverted : (m n : CellMap) (notes rest : List Note) → Reverting m notes n rest → length rest ≡ 0 → n ≡ cells_reverted notes m
all_reverted m n notes rest r e = sym (ap (λ es. cells_reverted es n) (empty_list rest e)) ∙ r.result

pub still_kinds : (m n o : CellMap) (notes rest : List Note) → Reverting m notes n rest → o ≡ n → (c : Cell) → holds_string (get o c) ≡ holds_string (get m c)
still_kinds m n o notes rest r e c = ap (λ k. holds_string (get k c)) e ∙ r.kinds c

pub still_gone : (m n o : CellMap) (notes rest : List Note) → Reverting m notes n rest → o ≡ n → (c : Cell) → get m c ≡ None → get o c ≡ None
still_gone m n o notes rest r e c i = ap (λ k. get k c) e ∙ r.gone c i
