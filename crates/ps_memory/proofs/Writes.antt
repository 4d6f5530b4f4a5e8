-- The writes of a run do what its trail does.
use Rattle.std.proofs.Common.{◌≡◌, Bool, true, false, cond, List, [], ◌∷◌, Some, None, refl, sym, ap, ◌∙◌, subst}
use Rattle.std.specs.Bool.{⊤}
use Rattle.ps_objects.specs.declared.cell.SaveName.{SaveName}
use Rattle.ps_memory.specs.Memory.{is_global, same_save, Spot, spot_of, Memory, value_at, shape_of, Action, store, fresh, save, restore, tell, perform}
use Rattle.ps_memory.specs.Tree.{Tree, ends, looks, acts, asks, Step, looked_at, did, trail, play}
use Rattle.ps_memory.specs.Ownership.{Owned, nothing_owned, saves_before, has_save, own, outer_from, outlives}
use Rattle.ps_memory.specs.Frame.{Allowed, Safe}
use Rattle.ps_memory.specs.Writes.{apply, Applicable, writes_left, note, writes_from, CertificateLaw, is_open}
use Rattle.ps_memory.proofs.Frame.{frame_law}
use Rattle.ps_memory.proofs.Undo.{undone, applicable_undo}
use Rattle.ps_memory.proofs.Replace.{saves_in, noted_store}

-- each action of a trail is allowed where it is done
Allows : List Step → Memory → Type 0
Allows [] M = ⊤
Allows (looked_at l ∷ steps) M = Allows steps M
Allows (did w ∷ steps) M = Allowed w M × Allows steps (perform w M)

safe_allows : {A : Type 0} (t : Tree A) (M : Memory) → Safe t M → Allows (trail t M) M
unfolding Allows
safe_allows (ends a) M s = tt
safe_allows (looks l f) M s = safe_allows (f (value_at M l)) M s
safe_allows (acts w t) M s = (s.0, safe_allows t (perform w M) s.1)
safe_allows (asks c f) M s = safe_allows (f (shape_of M c)) M s.1

-- the saves that the trail owns are those that the writes open
names_of : List (SaveName × (Spot → Bool)) → List SaveName
names_of [] = []
names_of (k ∷ saves) = k.0 ∷ names_of saves

has_name : SaveName → List SaveName → Bool
has_name s [] = false
has_name s (r ∷ rs) = cond (same_save s r) true (has_name s rs)

before : SaveName → List SaveName → List SaveName
before s [] = []
before s (r ∷ rs) = cond (same_save s r) rs (before s rs)

has_by_name : (s : SaveName) (saves : List (SaveName × (Spot → Bool))) → has_save s saves ≡ has_name s (names_of saves)
unfolding names_of has_name
has_by_name s [] = refl
has_by_name s (k ∷ saves) = ap (cond (same_save s k.0) true) (has_by_name s saves)

open_by_name : (s : SaveName) (ws : List Action) → is_open s ws ≡ has_name s (saves_in ws)
unfolding has_name
open_by_name s [] = refl
open_by_name s (save r ∷ ws) = ap (cond (same_save s r) true) (open_by_name s ws)
open_by_name s (_ ∷ ws) = open_by_name s ws

saves_named : (s : SaveName) (saves : List (SaveName × (Spot → Bool))) → names_of (saves_before s saves) ≡ before s (names_of saves)
unfolding names_of before
saves_named s [] = refl
saves_named s (k ∷ saves) = go (same_save s k.0) (saves_named s saves)
  where
    go : (x : Bool) → names_of (saves_before s saves) ≡ before s (names_of saves) → names_of (cond x saves (saves_before s saves)) ≡ cond x (names_of saves) (before s (names_of saves))
    go true ih = refl
    go false ih = ih

undo_named : (s : SaveName) (ws : List Action) → saves_in (writes_left s ws) ≡ before s (saves_in ws)
unfolding before
undo_named s [] = refl
undo_named s (save r ∷ ws) = go (same_save s r) (undo_named s ws)
  where
    go : (x : Bool) → saves_in (writes_left s ws) ≡ before s (saves_in ws) → saves_in (cond x ws (writes_left s ws)) ≡ cond x (saves_in ws) (before s (saves_in ws))
    go true ih = refl
    go false ih = ih
undo_named s (fresh c sh ∷ ws) = go (is_global c) (undo_named s ws)
  where
    go : (x : Bool) → saves_in (writes_left s ws) ≡ before s (saves_in ws) → saves_in (cond x (fresh c sh ∷ writes_left s ws) (writes_left s ws)) ≡ before s (saves_in ws)
    go true ih = ih
    go false ih = ih
undo_named s (store l v ∷ ws) = go (outlives s (spot_of l)) (undo_named s ws)
  where
    go : (x : Bool) → saves_in (writes_left s ws) ≡ before s (saves_in ws) → saves_in (cond x (store l v ∷ writes_left s ws) (writes_left s ws)) ≡ before s (saves_in ws)
    go true ih = ih
    go false ih = ih
undo_named s (restore r ∷ ws) = undo_named s ws
undo_named s (tell x ∷ ws) = undo_named s ws

-- what the writes of a trail do, and that they can be applied
record Written (steps : List Step) (ws : List Action) (N : Memory) : Type 0 where
  same : play steps (apply ws N) ≡ apply (writes_from ws steps) N
  applicable : Applicable (writes_from ws steps) N

written : (steps : List Step) (o : Owned) (ws : List Action) (N : Memory) → Applicable ws N → names_of o.saves ≡ saves_in ws → outer_from o steps ≡ None → Allows steps (apply ws N) → Written steps ws N
unfolding names_of Allows
written [] o ws N f e out a = record { same = refl; applicable = f }
written (looked_at l ∷ steps) o ws N f e out a = let r = written steps o ws N f e out a in record { same = r.same; applicable = r.applicable }
written (did (store l v) ∷ steps) o ws N f e out a =
    let d = noted_store l v ws N f a.0 in
    let r = written steps (own (store l v) o) (note (store l v) ws) N d.applicable (e ∙ sym d.saves) out (subst (Allows steps) (sym d.same) a.1) in
    record { same = ap (play steps) (sym d.same) ∙ r.same; applicable = r.applicable }
written (did (fresh c sh) ∷ steps) o ws N f e out a =
    let r = written steps (own (fresh c sh) o) (fresh c sh ∷ ws) N (refl, a.0, f) e out a.1 in
    record { same = r.same; applicable = r.applicable }
written (did (save s) ∷ steps) o ws N f e out a =
    let r = written steps (own (save s) o) (save s ∷ ws) N (refl, a.0, f) (ap (λ ns. s ∷ ns) e) out a.1 in
    record { same = r.same; applicable = r.applicable }
written (did (tell x) ∷ steps) o ws N f e out a =
    let r = written steps o ws N f e out a.1 in
    record { same = r.same; applicable = r.applicable }
written (did (restore s) ∷ steps) o ws N f e out a =
    go (has_save s o.saves) refl out
    (λ opens out same. written steps (own (restore s) o) (writes_left s ws) N (applicable_undo s ws N f opens) (saves_named s o.saves ∙ ap (before s) e ∙ sym (undo_named s ws)) out (subst (Allows steps) same a.1))
  where
    go : (x : Bool) → has_save s o.saves ≡ x → cond x (outer_from (own (restore s) o) steps) (Some s) ≡ None
        → (is_open s ws ≡ true → outer_from (own (restore s) o) steps ≡ None → perform (restore s) (apply ws N) ≡ apply (writes_left s ws) N → Written steps (writes_left s ws) N)
        → Written (did (restore s) ∷ steps) ws N
    go true h out ih =
        let opens = open_by_name s ws ∙ ap (has_name s) (sym e) ∙ sym (has_by_name s o.saves) ∙ h in
        let same = undone s ws N f opens in
        let r = ih opens out same in
        record { same = ap (play steps) same ∙ r.same; applicable = r.applicable }
    go false h out ih = cc

pub certificate_law : (A : Type 0) → CertificateLaw A
unfolding names_of
certificate_law A t B M s r k out all =
    let same = frame_law A t B M s r k out all in
    let w = written (trail t B) nothing_owned [] M tt refl out (subst (λ steps. Allows steps M) same.same_trail (safe_allows t M r)) in
    record {
      same_result = same.same_result;
      same_trail = same.same_trail;
      applicable = w.applicable;
      written = same.other_memory ∙ w.same;
    }
