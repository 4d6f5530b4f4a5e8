-- Steps of the search for the mark of an open save, and what follows of it.
use Rattle.std.proofs.Common.{◌≡◌, ℕ, zero, suc, ◌+◌, ◌<◌, Bool, true, false, cond, ◌&&◌, nat_eq, List, [], ◌∷◌, length, slice_get, drop, map, Some, Result, Ok, refl, sym, ap, ◌∙◌, arith}
use Rattle.ps_objects.specs.declared.cell.SaveName.{SaveName}
use Rattle.ps_names.specs.declared.error_name.ErrorName.{ErrorName}
use Rattle.ps_kinds.specs.declared.graphics.GState.{GState}
use Rattle.ps_kinds.specs.declared.regs.SaveMark.{SaveMark}
use Rattle.ps_kinds.specs.declared.state.State.{State}
use Rattle.ps_memory.specs.Memory.{Memory, same_save, shape_at}
use Rattle.ps_memory.specs.Tree.{wipes}
use Rattle.ps_meaning.specs.Answer.{names_taken}
use Rattle.ps_meaning.specs.Fits.{Shapes}
use Rattle.ps_meaning.specs.Ready.{Ready}
use Rattle.ps_meaning.specs.Registers.{SoundMarks}
use Rattle.ps_meaning.specs.Sound.{has_name}
use Rattle.vm_mem.specs.Conditions.{MayRestore}
use Rattle.ps_operator.specs.Newer.{marks_before}
use Rattle.ps_operator.proofs.LookSteps.{drop_at_get}
use Rattle.ps_operator.proofs.Restoring.{named_open}
use Rattle.save_restore.specs.Restoring.{open_mark, size_changes, IsMarkAt}

-- ---- the search

below : (ms : List SaveMark) (i : ℕ) (m : SaveMark) → slice_get ms i ≡ Some m → i < length ms
below [] i m e = cc
below (x ∷ xs) zero m e = omega arith
below (x ∷ xs) (suc i) m e = omega (arith, below xs i m e)

module _ (q : SaveName) (ms : List SaveMark) (i : ℕ) (m : SaveMark) (here : slice_get ms i ≡ Some m) where
  open_at : (b : Bool) → same_save q m.name ≡ b → open_mark q (drop i ms) ≡ cond b (Ok m) (open_mark q (drop (i + 1) ms))
  open_at b h = ap (open_mark q) (drop_at_get ms i m here) ∙ ap (λ b. cond b (Ok m) (open_mark q (drop (i + 1) ms))) h

  before_at : (b : Bool) → same_save q m.name ≡ b → marks_before q (drop i ms) ≡ cond b (drop (i + 1) ms) (marks_before q (drop (i + 1) ms))
  before_at b h = ap (marks_before q) (drop_at_get ms i m here) ∙ ap (λ b. cond b (drop (i + 1) ms) (marks_before q (drop (i + 1) ms))) h

  pub mark_hit : same_save q m.name ≡ true → open_mark q (drop i ms) ≡ open_mark q ms → marks_before q (drop i ms) ≡ marks_before q ms → IsMarkAt q ms i
  mark_hit h o b = record {
    within = below ms i m here;
    found = λ n e. sym o ∙ open_at true h ∙ ap Ok (same n e);
    behind = sym (before_at true h) ∙ b;
  }
    where
      same : (n : SaveMark) → slice_get ms i ≡ Some n → m ≡ n
      same n e = let p : Some m ≡ Some n = sym here ∙ e in cc

  pub open_miss : same_save q m.name ≡ false → open_mark q (drop i ms) ≡ open_mark q (drop (i + 1) ms)
  open_miss h = open_at false h

  pub before_miss : same_save q m.name ≡ false → marks_before q (drop i ms) ≡ marks_before q (drop (i + 1) ms)
  before_miss h = before_at false h

-- ---- the mark that is taken

drop_head : (ms : List SaveMark) (i : ℕ) (m : SaveMark) (rest : List SaveMark) → drop i ms ≡ m ∷ rest → slice_get ms i ≡ Some m
drop_head [] zero m rest e = cc
drop_head [] (suc i) m rest e = cc
drop_head (x ∷ xs) zero m rest e = let p : x ≡ m = cc in ap Some p
drop_head (x ∷ xs) (suc i) m rest e = drop_head xs i m rest e

none_dropped : (ms : List SaveMark) (i : ℕ) → i < length ms → drop i ms ≡ [] → ⊥
none_dropped [] i l e = absurd (omega (arith, l))
none_dropped (x ∷ xs) zero l e = cc
none_dropped (x ∷ xs) (suc i) l e = none_dropped xs i (omega (arith, l)) e

module _ (q : SaveName) (ms : List SaveMark) (i : ℕ) (at : IsMarkAt q ms i) where
  pub mark_is_there : drop i ms ≡ [] → ⊥
  mark_is_there e = none_dropped ms i at.within e

module _ (q : SaveName) (ms : List SaveMark) (i : ℕ) (at : IsMarkAt q ms i) (m : SaveMark) (rest : List SaveMark) (e : drop i ms ≡ m ∷ rest) where
  pub mark_taken : Ok m ≡ open_mark q ms
  mark_taken = sym (at.found m (drop_head ms i m rest e))

  pub marks_left : rest ≡ marks_before q ms
  marks_left = let p : m ∷ drop (i + 1) ms ≡ m ∷ rest = sym (drop_at_get ms i m (drop_head ms i m rest e)) ∙ e in let t : drop (i + 1) ms ≡ rest = cc in sym t ∙ at.behind

-- ---- the mark of an open save is that of a kept copy

module _ (K : Shapes) (q : SaveName) (k : SaveMark) where
  pub mark_named : (ms : List SaveMark) (rs : List SaveName) → SoundMarks K ms rs → open_mark q ms ≡ Ok k → has_name q rs ≡ true
  mark_named [] rs h e = cc
  mark_named (m ∷ ms) [] h e = absurd h
  mark_named (m ∷ ms) (r ∷ rs) h e = go (same_save q m.name) refl e (mark_named ms rs h.3)
    where
      go : (b : Bool) → same_save q m.name ≡ b → cond {A = Result SaveMark ErrorName} b (Ok m) (open_mark q ms) ≡ Ok k → (open_mark q ms ≡ Ok k → has_name q rs ≡ true) → cond (same_save q r) true (has_name q rs) ≡ true
      go true p e n = ap (λ b. cond b true (has_name q rs)) (ap (same_save q) (sym h.0) ∙ p)
      go false p e n = ap (λ b. cond b true (has_name q rs)) (ap (same_save q) (sym h.0) ∙ p) ∙ n e

pub mark_restores : (s : State) (M : Memory) (r : Ready s M) (q : SaveName) (k : SaveMark) → open_mark q s.regs.saves ≡ Ok k → MayRestore M q
mark_restores s M r q k e = named_open s M r q (mark_named (shape_at M) q k s.regs.saves (map (λ k. k.0) M.kept) r.state.registers.marks e)

-- a change of the page's size takes no names
pub sizes_take_none : (new old : GState) → names_taken (size_changes new old) ≡ 0
unfolding size_changes
sizes_take_none new old = go (nat_eq new.wide old.wide && nat_eq new.high old.high)
  where
    go : (b : Bool) → names_taken (cond b [] (wipes new.wide new.high ∷ [])) ≡ 0
    go true = refl
    go false = refl
