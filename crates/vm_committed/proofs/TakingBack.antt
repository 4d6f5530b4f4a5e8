-- Writes done one after another, and taken back.
use Rattle.std.proofs.Common.{◌≡◌, ℕ, zero, suc, ◌+◌, ◌<◌, Bool, true, false, cond, ◌&&◌, List, [], ◌∷◌, Option, Some, None, MatchOption, refl, sym, ap, ◌∙◌, length, drop, slice_get, arith}
use Rattle.std.specs.Cmp.{first_so, second_so}
use Rattle.std.specs.FinMap.{remove}
use Rattle.ps_objects.specs.declared.cell.Cell.{Cell}
use Rattle.ps_objects.specs.declared.place.Loc.TheVariants as loc
use Rattle.ps_objects.specs.declared.place.Value.TheVariants as value
use Rattle.ps_memory.specs.Memory.{is_global, CellMap, Memory, Action, spot_of, with_part, put_cell, perform}
use Rattle.ps_memory.proofs.Frame.{kept_store, kept_fresh}
use Rattle.vm_content.specs.Back.{content_undone}
use Rattle.vm_mem.specs.declared.writes.Write.{Write}
use Rattle.vm_mem.specs.declared.writes.Write.TheVariants.{Fresh, Put, Remove, Save}
use Rattle.vm_committed.specs.declared.undo.Undo.{Undo}
use Rattle.vm_committed.specs.declared.undo.Undo.TheVariants.{Nothing, Made, Held, Byte, Rand, Laid}
use Rattle.vm_journal.specs.Part.{is_empty}
use Rattle.vm_mem.specs.Writes.{action_of}
use Rattle.vm_committed.specs.Undo.{write_undone, writes_undone, opens_none, none_opens, stays_closed}

-- ---- writes that open no save

pub next_closed : (ws : List Write) (i : ℕ) (w : Write) → none_opens ws ≡ true → slice_get ws i ≡ Some w → opens_none w ≡ true
next_closed [] i w h e = cc
next_closed (x ∷ ws) zero w h e = let is : x ≡ w = cc in sym (ap opens_none is) ∙ first_so _ _ h
next_closed (x ∷ ws) (suc i) w h e = next_closed ws i w (second_so _ _ h) e

next_write : (ws : List Write) (i : ℕ) (w : Write) → slice_get ws i ≡ Some w → drop i ws ≡ w ∷ drop (suc i) ws
next_write [] i w h = cc
next_write (x ∷ ws) zero w h = let is : x ≡ w = cc in ap (λ y. y ∷ ws) is
next_write (x ∷ ws) (suc i) w h = next_write ws i w h

pub one_closed : (ws : List Write) (i : ℕ) (w : Write) → none_opens ws ≡ none_opens (drop i ws) → slice_get ws i ≡ Some w → opens_none w ≡ true → none_opens ws ≡ none_opens (drop (i + 1) ws)
one_closed ws i w h e o =
    let next : suc i ≡ i + 1 = omega arith in
    h ∙ ap none_opens (next_write ws i w e) ∙ ap (λ b. b && none_opens (drop (suc i) ws)) o ∙ ap (λ n. none_opens (drop n ws)) next

pub one_opens : (ws : List Write) (i : ℕ) (w : Write) → none_opens ws ≡ none_opens (drop i ws) → slice_get ws i ≡ Some w → opens_none w ≡ false → none_opens ws ≡ false
one_opens ws i w h e o = h ∙ ap none_opens (next_write ws i w e) ∙ ap (λ b. b && none_opens (drop (suc i) ws)) o

pub all_closed : (ws : List Write) (i : ℕ) → none_opens ws ≡ none_opens (drop i ws) → ¬ (i < length ws) → none_opens ws ≡ true
all_closed ws i h e = h ∙ ap none_opens (none_left ws i e)
  where
    none_left : (ws : List Write) (i : ℕ) → ¬ (i < length ws) → drop i ws ≡ []
    none_left [] zero e = refl
    none_left [] (suc i) e = refl
    none_left (w ∷ ws) zero e = absurd (e (omega arith))
    none_left (w ∷ ws) (suc i) e = none_left ws i (λ l. e (omega (arith, l)))

-- ---- the open saves stay

-- where no save is open
pub closed_now : (M : Memory) (ws : List Write) → stays_closed M ws ≡ true → M.kept ≡ []
closed_now M ws h = go M.kept (first_so _ _ h)
  where
    go : {X : Type 0} (xs : List X) → is_empty xs ≡ true → xs ≡ []
    go [] e = refl
    go (x ∷ xs) e = cc

pub closed_after : (M : Memory) (ws : List Write) → stays_closed M ws ≡ true → none_opens ws ≡ true
closed_after M ws h = second_so _ _ h

kept_part : (M : Memory) (c : Cell) (f : CellMap → CellMap) → (with_part M c f).kept ≡ M.kept
kept_part M c f = go (is_global c)
  where
    go : (b : Bool) → (cond b (record M { globals = f M.globals }) (record M { locals = f M.locals })).kept ≡ M.kept
    go true = refl
    go false = refl

kept_write : (w : Write) (M : Memory) → opens_none w ≡ true → (perform (action_of w) M).kept ≡ M.kept
kept_write (Fresh c sh) M h = kept_fresh c sh M
kept_write (Put l v) M h = kept_store (spot_of l) v M
kept_write (Remove d k) M h = kept_store (spot_of (loc.Entry d k)) value.Absent M
kept_write (Save s) M h = cc

pub kept_done : (w : Write) (M N : Memory) → opens_none w ≡ true → N ≡ perform (action_of w) M → N.kept ≡ M.kept
kept_done w M N h e = ap (λ (m : Memory). m.kept) e ∙ kept_write w M h

pub kept_back : (u : Undo) (M : Memory) → (write_undone u M).kept ≡ M.kept
kept_back Nothing M = refl
kept_back (Made c) M = kept_part M c (λ m. remove m c)
kept_back (Held c b) M = kept_part M c (put_cell c (content_undone b))
kept_back (Byte c i n) M = refl
kept_back (Rand n) M = refl
kept_back (Laid p) M = refl

-- ---- all writes are taken back

-- a write that was done
pub done_back : (us vs : List Undo) (u : Undo) (w : Action) (M N : Memory) → vs ≡ u ∷ us → N ≡ perform w M → write_undone u (perform w M) ≡ M → writes_undone vs N ≡ writes_undone us M
done_back us vs u w M N e d h = ap (λ xs. writes_undone xs N) e ∙ ap (λ m. writes_undone us (write_undone u m)) d ∙ ap (writes_undone us) h

-- a write that wasn't done
pub undone_back : (us vs ws : List Undo) (u : Undo) (o : Option Undo) (M N : Memory) → vs ≡ u ∷ us → MatchOption o ((vs ≡ []) × (ws ≡ [])) (λ x. vs ≡ x ∷ ws) → N ≡ M → writes_undone ws N ≡ writes_undone us M
undone_back us vs ws u (Some x) M N e h d = let same : ws ≡ us = cc in ap (λ xs. writes_undone xs N) same ∙ ap (writes_undone us) d
undone_back us vs ws u None M N e h d = absurd (no_cons (sym e ∙ h.0))
  where
    no_cons : u ∷ us ≡ [] → ⊥
    no_cons e = cc

pub next_back : (us vs ws : List Undo) (u : Undo) (S M N : Memory) → vs ≡ u ∷ ws → writes_undone vs M ≡ writes_undone us S → N ≡ write_undone u M → writes_undone ws N ≡ writes_undone us S
next_back us vs ws u S M N e h d = ap (writes_undone ws) d ∙ sym (ap (λ xs. writes_undone xs M) e) ∙ h
