-- The saves that a restore closes, one by one.
use Rattle.std.proofs.Common.{◌≡◌, ◌≢◌, ℕ, Bool, true, false, cond, ◌&&◌, not, List, [], ◌∷◌, Some, None, refl, sym, ap, ◌∙◌, ◌<◌, arith}
use Rattle.std.specs.declared.cmp.Ordering.{Ordering}
use Rattle.std.specs.declared.cmp.Ordering.TheVariants.{Equal, Greater}
use Rattle.std.specs.Ordering.{MatchOrdering, nat_cmp, is_gt, ordering_then}
use Rattle.std.specs.Cmp.{ranks, nat_cmp_is, first_so, second_so}
use Rattle.std.specs.FinMap.{FinMap, get}
use Rattle.std.specs.List.{AllByRecursion}
use Rattle.ps_objects.specs.declared.cell.Cell.{Cell}
use Rattle.ps_objects.specs.declared.cell.SaveName.{SaveName}
use Rattle.ps_memory.specs.Order.{cell_cmp}
use Rattle.ps_memory.specs.Memory.{is_global, newer, same_save, CellMap, Memory, copy_named, older_than}
use Rattle.ps_memory.specs.Frame.{later}
use Rattle.ps_memory.proofs.Places.{kept_at}
use Rattle.ps_memory.proofs.Frame.{save_is}
use Rattle.ps_memory.proofs.Keeping.{same_maps}
use Rattle.vm_journal.specs.Part.{Part, HaveCells, Closes, kept_from}
use Rattle.ps_memory.specs.Holders.{HaveHolders, holds_string}

-- ---- names

after_later : (a b : ℕ) (s r : SaveName) → is_gt (ordering_then (nat_cmp a s.section) (nat_cmp b s.count)) ≡ true → later s r ≡ true → is_gt (ordering_then (nat_cmp a r.section) (nat_cmp b r.count)) ≡ true
after_later a b s r = go (nat_cmp a s.section) (nat_cmp b s.count) (nat_cmp s.section r.section) (nat_cmp s.count r.count) (ranks a s.section) (ranks b s.count) (ranks s.section r.section) (ranks s.count r.count)
  where
    is_after : (r.section < a) → is_gt (ordering_then (nat_cmp a r.section) (nat_cmp b r.count)) ≡ true
    is_after h = ap (λ o. is_gt (ordering_then o (nat_cmp b r.count))) (sym (nat_cmp_is a r.section Greater h))

    is_same : a ≡ r.section → r.count < b → is_gt (ordering_then (nat_cmp a r.section) (nat_cmp b r.count)) ≡ true
    is_same h k = ap (λ o. is_gt (ordering_then o (nat_cmp b r.count))) (sym (nat_cmp_is a r.section Equal h)) ∙ ap is_gt (sym (nat_cmp_is b r.count Greater k))

    go : (o p q t : Ordering) → MatchOrdering o (a < s.section) (a ≡ s.section) (s.section < a) → MatchOrdering p (b < s.count) (b ≡ s.count) (s.count < b)
        → MatchOrdering q (s.section < r.section) (s.section ≡ r.section) (r.section < s.section) → MatchOrdering t (s.count < r.count) (s.count ≡ r.count) (r.count < s.count)
        → is_gt (ordering_then o p) ≡ true → is_gt (ordering_then q t) ≡ true → is_gt (ordering_then (nat_cmp a r.section) (nat_cmp b r.count)) ≡ true
    go Greater p Greater t h i j k e f = is_after (omega (arith, h, j))
    go Greater p Equal Greater h i j k e f = is_after (omega (arith, h, j))
    go Equal Greater Greater t h i j k e f = is_after (omega (arith, h, j))
    go Equal Greater Equal Greater h i j k e f = is_same (omega (arith, h, j)) (omega (arith, i, k))
    go _ _ _ _ h i j k e f = cc

newer_later : (c : Cell) (s r : SaveName) → later s r ≡ true → newer c s ≡ true → newer c r ≡ true
newer_later c s r l h = ap (λ b. b && is_gt (ordering_then (nat_cmp c.section r.section) (nat_cmp c.count r.count))) (first_so _ _ h) ∙ after_later c.section c.count s r (second_so _ _ h) l

-- a save that is later than all of these is later than the one of this name
later_named : (s name : SaveName) (kept : List (SaveName × CellMap)) → AllByRecursion (λ k. later s k.0 ≡ true) kept → copy_named name kept ≢ None → later s name ≡ true
later_named s name [] a h = absurd (h refl)
later_named s name (k ∷ kept) a h = go (same_save name k.0) refl (later_named s name kept a.1)
  where
    go : (b : Bool) → same_save name k.0 ≡ b → (copy_named name kept ≢ None → later s name ≡ true) → later s name ≡ true
    go true e rest = ap (later s) (save_is name k.0 e) ∙ a.0
    go false e rest = rest (λ n. h (ap (λ b. cond b (Some k.1) (copy_named name kept)) e ∙ n))

-- ---- maps

kept_twice : {X : Type 0} (s name : SaveName) (m : FinMap cell_cmp X) → later s name ≡ true → kept_from name (kept_from s m) ≡ kept_from name m
kept_twice s name m l = same_maps (kept_from name (kept_from s m)) (kept_from name m) (λ d.
    kept_at name d (kept_from s m) ∙ ap (λ o. cond (not (newer d name)) o None) (kept_at s d m) ∙ go d (newer d s) refl ∙ sym (kept_at name d m))
  where
    go : (d : Cell) (b : Bool) → newer d s ≡ b → cond (not (newer d name)) (cond (not b) (get m d) None) None ≡ cond (not (newer d name)) (get m d) None
    go d true e = let late = newer_later d s name l e in ap (λ b. cond (not b) None None) late ∙ sym (ap (λ b. cond (not b) (get m d) None) late)
    go d false e = refl

-- ---- closing

-- the newest save is another
module _ (name s : SaveName) (old new : Part) (before after : FinMap cell_cmp (List ℕ)) (h : Closes (Some s) old new before after) (other : same_save name s ≡ false) where
  pub other_copy : copy_named name new.kept ≡ copy_named name old.kept
  other_copy = sym (ap (copy_named name) h.0 ∙ ap (λ b. cond b (Some new.cells) (copy_named name new.kept)) other)

  pub other_older : older_than name new.kept ≡ older_than name old.kept
  other_older = sym (ap (older_than name) h.0 ∙ ap (λ b. cond b new.kept (older_than name new.kept)) other)

  pub other_strings : copy_named name old.kept ≢ None → kept_from name after ≡ kept_from name before
  other_strings there = ap (kept_from name) h.1 ∙ kept_twice s name before (later_named s name new.kept h.2 (λ n. there (sym other_copy ∙ n)))

-- ---- the whole memory

pub holders_kept : (M : Memory) (locals : CellMap) (strings : FinMap cell_cmp (List ℕ)) (kept : List (SaveName × CellMap)) → ((c : Cell) → get M.strings c ≡ None → get strings c ≡ None) → HaveCells strings locals
    → HaveHolders M → HaveHolders (record M { locals = locals; strings = strings; kept = kept })
holders_kept M locals strings kept fewer own h d = go (is_global d) refl
  where
    go : (b : Bool) → is_global d ≡ b → holds_string (get (cond b M.globals locals) d) ≡ false → get strings d ≡ None
    go true i e = fewer d (h d (ap (λ b. holds_string (get (cond b M.globals M.locals) d)) i ∙ e))
    go false i e = own d i e
