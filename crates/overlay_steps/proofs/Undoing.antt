-- What is left of writes when the newest is taken away.
use Rattle.std.proofs.Common.{◌≡◌, ℕ, suc, ◌<◌, Bool, true, false, cond, List, [], ◌∷◌, Some, refl, sym, ap, ◌∙◌, subst, true≢false, length, drop, slice_get, ◌+◌, zero, arith}
use Rattle.ps_objects.specs.declared.cell.SaveName.{SaveName}
use Rattle.ps_memory.specs.Memory.{same_save, spot_of, Action, store, fresh, save}
use Rattle.ps_memory.specs.Ownership.{outlives}
use Rattle.ps_memory.specs.Writes.{survives, writes_left}
use Rattle.overlay_steps.specs.Newest.{MadeOnce}
use Rattle.overlay_steps.specs.declared.pile.Note.{Note}
use Rattle.overlay_steps.specs.declared.pile.Note.TheVariants.{Fresh, Put, Save}
use Rattle.overlay_steps.specs.declared.pile.Mark.{Mark}
use Rattle.overlay_steps.specs.Pile.{action_of}
use Rattle.overlay_steps.specs.Steps.{is_marked, opens, laid}

opened_left : (s : SaveName) (n : Note) (ws : List Action) → opens s n ≡ true → writes_left s (action_of n ∷ ws) ≡ ws
opened_left s (Fresh c sh) ws o = absurd (true≢false (sym o))
opened_left s (Put l v) ws o = absurd (true≢false (sym o))
opened_left s (Save r) ws o = ap (λ b. cond b ws (writes_left s ws)) o

other_left : (s : SaveName) (n : Note) (ws : List Action) → opens s n ≡ false → writes_left s (action_of n ∷ ws) ≡ cond (survives s (action_of n)) (action_of n ∷ writes_left s ws) (writes_left s ws)
other_left s (Fresh c sh) ws o = refl
other_left s (Put l v) ws o = refl
other_left s (Save r) ws o = ap (λ b. cond b ws (writes_left s ws)) o

-- the save is reached
pub left_opened : (s : SaveName) (n : Note) (ks : List Note) (xs ws rest : List Action) → laid ks (writes_left s xs) ≡ rest → xs ≡ action_of n ∷ ws → opens s n ≡ true → laid ks ws ≡ rest
left_opened s n ks xs ws rest h e o = ap (laid ks) (sym (ap (writes_left s) e ∙ opened_left s n ws o)) ∙ h

-- a write that outlives the restore is kept
pub left_kept : (s : SaveName) (n : Note) (ks : List Note) (xs ws rest : List Action) → laid ks (writes_left s xs) ≡ rest → xs ≡ action_of n ∷ ws → opens s n ≡ false → survives s (action_of n) ≡ true → laid (n ∷ ks) (writes_left s ws) ≡ rest
left_kept s n ks xs ws rest h e o k = ap (laid ks) (sym (ap (writes_left s) e ∙ other_left s n ws o ∙ ap (λ b. cond b (action_of n ∷ writes_left s ws) (writes_left s ws)) k)) ∙ h

-- another is dropped
pub left_lost : (s : SaveName) (n : Note) (ks : List Note) (xs ws rest : List Action) → laid ks (writes_left s xs) ≡ rest → xs ≡ action_of n ∷ ws → opens s n ≡ false → survives s (action_of n) ≡ false → laid ks (writes_left s ws) ≡ rest
left_lost s n ks xs ws rest h e o k = ap (laid ks) (sym (ap (writes_left s) e ∙ other_left s n ws o ∙ ap (λ b. cond b (action_of n ∷ writes_left s ws) (writes_left s ws)) k)) ∙ h

-- no write is left
pub left_none : (s : SaveName) (ks : List Note) (xs us rest : List Action) → laid ks (writes_left s xs) ≡ rest → xs ≡ [] → us ≡ [] → laid ks us ≡ rest
left_none s ks xs us rest h e f = ap (laid ks) (f ∙ sym (ap (writes_left s) e)) ∙ h

once_below : (n : Note) (ws : List Action) → MadeOnce (action_of n ∷ ws) → MadeOnce ws
once_below (Fresh c sh) ws h = h.1
once_below (Put l v) ws h = h
once_below (Save r) ws h = h

pub once_less : (n : Note) (xs ws : List Action) → xs ≡ action_of n ∷ ws → MadeOnce xs → MadeOnce ws
once_less n xs ws e h = once_below n ws (subst MadeOnce e h)

pub fewer : (n : Note) (xs ws : List Action) → xs ≡ action_of n ∷ ws → length ws < length xs
fewer n xs ws e = let l : length xs ≡ suc (length ws) = ap length e in omega (arith, l)

-- ---- a mark of this name

next_mark : (ms : List Mark) (i : ℕ) (m : Mark) → slice_get ms i ≡ Some m → drop i ms ≡ m ∷ drop (suc i) ms
next_mark [] i m h = cc
next_mark (x ∷ ms) zero m h = let is : x ≡ m = cc in ap (λ y. y ∷ ms) is
next_mark (x ∷ ms) (suc i) m h = next_mark ms i m h

pub mark_found : (s : SaveName) (ms : List Mark) (i : ℕ) (m : Mark) → is_marked s ms ≡ is_marked s (drop i ms) → slice_get ms i ≡ Some m → same_save s m.name ≡ true → is_marked s ms ≡ true
mark_found s ms i m h e o = h ∙ ap (is_marked s) (next_mark ms i m e) ∙ ap (λ b. cond b true (is_marked s (drop (suc i) ms))) o

pub mark_passed : (s : SaveName) (ms : List Mark) (i : ℕ) (m : Mark) → is_marked s ms ≡ is_marked s (drop i ms) → slice_get ms i ≡ Some m → same_save s m.name ≡ false → is_marked s ms ≡ is_marked s (drop (i + 1) ms)
mark_passed s ms i m h e o =
    let next : suc i ≡ i + 1 = omega arith in
    h ∙ ap (is_marked s) (next_mark ms i m e) ∙ ap (λ b. cond b true (is_marked s (drop (suc i) ms))) o ∙ ap (λ n. is_marked s (drop n ms)) next

pub mark_none : (s : SaveName) (ms : List Mark) (i : ℕ) → is_marked s ms ≡ is_marked s (drop i ms) → ¬ (i < length ms) → is_marked s ms ≡ false
mark_none s ms i h e = h ∙ ap (is_marked s) (none_left ms i e)
  where
    none_left : (ms : List Mark) (i : ℕ) → ¬ (i < length ms) → drop i ms ≡ []
    none_left [] zero e = refl
    none_left [] (suc i) e = refl
    none_left (m ∷ ms) zero e = absurd (e (omega arith))
    none_left (m ∷ ms) (suc i) e = none_left ms i (λ l. e (omega (arith, l)))
