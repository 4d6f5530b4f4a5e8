-- The ownership of a run is what its writes tell.
use Rattle.std.proofs.Common.{◌≡◌, Bool, true, false, cond, ◌||◌, ◌&&◌, not, List, [], ◌∷◌, Option, Some, None, option_map, refl, sym, ap, ◌∙◌, true≢false}
use Rattle.std.specs.Bool.{⊤}
use Rattle.std.specs.Ordering.{nat_cmp, is_gt, ordering_then}
use Rattle.ps_objects.specs.declared.cell.Cell.{Cell}
use Rattle.ps_objects.specs.declared.cell.SaveName.{SaveName}
use Rattle.ps_objects.specs.declared.place.Loc.{Loc}
use Rattle.ps_objects.specs.declared.place.Value.{Value}
use Rattle.ps_objects.specs.declared.place.Shape.{Shape}
use Rattle.ps_memory.specs.Memory.{is_global, newer, same_save, Memory, Spot, held, byte, rand, paper, spot_of, Action, store, fresh, save, restore, tell}
use Rattle.ps_memory.specs.Ownership.{same_spot, in_cell, outlives, nothing_owned, owned_at, saves_before, has_save, own}
use Rattle.ps_memory.specs.Writes.{Applicable, writes_left, store_replaced, note, is_open}
use Rattle.ps_memory.proofs.Order.{cell_is}
use Rattle.ps_memory.proofs.Places.{spot_is}
use Rattle.ps_memory.proofs.Undo.{newer_than_open}
use Rattle.overlay_steps.specs.Newest.{is_written, saves_by, owned_by}

-- ---- a store

or_swap : (a b c : Bool) → (a || (b || c)) ≡ (b || (a || c))
or_swap true true c = refl
or_swap true false c = refl
or_swap false b c = refl

or_twice : (a b : Bool) → (a || (a || b)) ≡ (a || b)
or_twice true b = refl
or_twice false b = refl

-- the writes us have another value at l
record Replaces (l : Loc) (ws us : List Action) : Type 0 where
  written : (q : Spot) → is_written q us ≡ is_written q ws
  here : (q : Spot) → (same_spot (spot_of l) q || is_written q ws) ≡ is_written q ws
  saves : saves_by us ≡ saves_by ws

abbrev IfReplaces : Loc → List Action → Option (List Action) → Type 0
IfReplaces l ws None = ⊤
IfReplaces l ws (Some us) = Replaces l ws us

replaces : (l : Loc) (v : Value) (ws : List Action) → IfReplaces l ws (store_replaced l v ws)
replaces l v [] = tt
replaces l v (store k w ∷ ws) = go (same_spot (spot_of k) (spot_of l)) refl (replaces l v ws)
  where
    passed : (o : Option (List Action)) → IfReplaces l ws o → IfReplaces l (store k w ∷ ws) (option_map (λ us. store k w ∷ us) o)
    passed None g = tt
    passed (Some us) g = record {
      written = λ q. ap (λ b. same_spot (spot_of k) q || b) (g.written q);
      here = λ q. or_swap (same_spot (spot_of l) q) (same_spot (spot_of k) q) (is_written q ws) ∙ ap (λ b. same_spot (spot_of k) q || b) (g.here q);
      saves = g.saves;
    }

    go : (b : Bool) → same_spot (spot_of k) (spot_of l) ≡ b → IfReplaces l ws (store_replaced l v ws) → IfReplaces l (store k w ∷ ws) (cond b (Some (store k v ∷ ws)) (option_map (λ us. store k w ∷ us) (store_replaced l v ws)))
    go true e ih = record {
      written = λ q. refl;
      here = λ q. ap (λ p. same_spot p q || (same_spot (spot_of k) q || is_written q ws)) (sym (spot_is (spot_of k) (spot_of l) e)) ∙ or_twice (same_spot (spot_of k) q) (is_written q ws);
      saves = refl;
    }
    go false e ih = passed (store_replaced l v ws) ih
replaces l v (fresh c sh ∷ ws) = go (in_cell c (spot_of l)) (replaces l v ws)
  where
    passed : (o : Option (List Action)) → IfReplaces l ws o → IfReplaces l (fresh c sh ∷ ws) (option_map (λ us. fresh c sh ∷ us) o)
    passed None g = tt
    passed (Some us) g = record {
      written = λ q. ap (λ b. in_cell c q || b) (g.written q);
      here = λ q. or_swap (same_spot (spot_of l) q) (in_cell c q) (is_written q ws) ∙ ap (λ b. in_cell c q || b) (g.here q);
      saves = g.saves;
    }

    go : (b : Bool) → IfReplaces l ws (store_replaced l v ws) → IfReplaces l (fresh c sh ∷ ws) (cond b None (option_map (λ us. fresh c sh ∷ us) (store_replaced l v ws)))
    go true ih = tt
    go false ih = passed (store_replaced l v ws) ih
replaces l v (save s ∷ ws) = go (outlives s (spot_of l)) (replaces l v ws)
  where
    passed : (o : Option (List Action)) → IfReplaces l ws o → IfReplaces l (save s ∷ ws) (option_map (λ us. save s ∷ us) o)
    passed None g = tt
    passed (Some us) g = record { written = g.written; here = g.here; saves = λ i. (s, λ p. g.written p i) ∷ g.saves i }

    go : (b : Bool) → IfReplaces l ws (store_replaced l v ws) → IfReplaces l (save s ∷ ws) (cond b (option_map (λ us. save s ∷ us) (store_replaced l v ws)) None)
    go true ih = passed (store_replaced l v ws) ih
    go false ih = tt
replaces l v (restore s ∷ ws) = tt
replaces l v (tell x ∷ ws) = tt

pub owned_store : (l : Loc) (v : Value) (ws : List Action) → own (store l v) (owned_by ws) ≡ owned_by (note (store l v) ws)
owned_store l v ws = go (store_replaced l v ws) (replaces l v ws)
  where
    go : (o : Option (List Action)) → IfReplaces l ws o → own (store l v) (owned_by ws) ≡ owned_by (elim o as (λ _. List Action) [ None ↦ store l v ∷ ws | Some us ↦ us ])
    go None g = refl
    go (Some us) g = λ i. record { now = λ q. (g.here q ∙ sym (g.written q)) i; saves = sym g.saves i }

pub owned_fresh : (c : Cell) (sh : Shape) (ws : List Action) → own (fresh c sh) (owned_by ws) ≡ owned_by (note (fresh c sh) ws)
owned_fresh c sh ws = refl

pub owned_save : (s : SaveName) (ws : List Action) → own (save s) (owned_by ws) ≡ owned_by (note (save s) ws)
owned_save s ws = refl

pub owned_nothing : nothing_owned ≡ owned_by []
owned_nothing = refl

-- ---- a restore

-- a place of a new cell outlives just the saves that the cell outlives
cell_outlives : (s : SaveName) (c : Cell) (q : Spot) → (is_global c ≡ false → newer c s ≡ true) → in_cell c q ≡ true → outlives s q ≡ is_global c
cell_outlives s c (held d t) n e = ap is_global (cell_is d c e)
cell_outlives s c (byte d i) n e = ap (λ d. not (newer d s)) (cell_is d c e) ∙ go (is_global c) refl
  where
    go : (b : Bool) → is_global c ≡ b → not (newer c s) ≡ b
    go true g = ap (λ g. not (not g && is_gt (ordering_then (nat_cmp c.section s.section) (nat_cmp c.count s.count)))) g
    go false g = ap not (n g)
cell_outlives s c rand n e = absurd (true≢false (sym e))
cell_outlives s c paper n e = absurd (true≢false (sym e))

same_either : (b x : Bool) → cond b x x ≡ x
same_either true x = refl
same_either false x = refl

written_undone : (s : SaveName) (ws : List Action) (N : Memory) (q : Spot) → Applicable ws N → is_open s ws ≡ true → cond (outlives s q) (is_written q ws) (owned_at s (saves_by ws) q) ≡ is_written q (writes_left s ws)
written_undone s [] N q f h = absurd (true≢false (sym h))
written_undone s (save r ∷ ws) N q f h = go (same_save s r) h (written_undone s ws N q f.2)
  where
    go : (b : Bool) → cond b true (is_open s ws) ≡ true → (is_open s ws ≡ true → cond (outlives s q) (is_written q ws) (owned_at s (saves_by ws) q) ≡ is_written q (writes_left s ws))
        → cond (outlives s q) (is_written q ws) (cond b (is_written q ws) (owned_at s (saves_by ws) q)) ≡ is_written q (cond b ws (writes_left s ws))
    go true h ih = same_either (outlives s q) (is_written q ws)
    go false h ih = ih h
written_undone s (store l v ∷ ws) N q f h = go (same_spot (spot_of l) q) refl (outlives s (spot_of l)) refl (written_undone s ws N q f.2 h)
  where
    go : (b : Bool) → same_spot (spot_of l) q ≡ b → (x : Bool) → outlives s (spot_of l) ≡ x → cond (outlives s q) (is_written q ws) (owned_at s (saves_by ws) q) ≡ is_written q (writes_left s ws)
        → cond (outlives s q) (same_spot (spot_of l) q || is_written q ws) (owned_at s (saves_by ws) q) ≡ is_written q (cond x (store l v ∷ writes_left s ws) (writes_left s ws))
    go true e true x ih =
        ap (λ o. cond o (same_spot (spot_of l) q || is_written q ws) (owned_at s (saves_by ws) q)) (ap (outlives s) (sym (spot_is (spot_of l) q e)) ∙ x)
        ∙ ap (λ b. b || is_written q ws) e ∙ sym (ap (λ b. b || is_written q (writes_left s ws)) e)
    go true e false x ih =
        let o : outlives s q ≡ false = ap (outlives s) (sym (spot_is (spot_of l) q e)) ∙ x in
        ap (λ o. cond o (same_spot (spot_of l) q || is_written q ws) (owned_at s (saves_by ws) q)) o
        ∙ sym (ap (λ o. cond o (is_written q ws) (owned_at s (saves_by ws) q)) o) ∙ ih
    go false e true x ih = ap (λ b. cond (outlives s q) (b || is_written q ws) (owned_at s (saves_by ws) q)) e ∙ ih ∙ sym (ap (λ b. b || is_written q (writes_left s ws)) e)
    go false e false x ih = ap (λ b. cond (outlives s q) (b || is_written q ws) (owned_at s (saves_by ws) q)) e ∙ ih
written_undone s (fresh c sh ∷ ws) N q f h = go (in_cell c q) refl (is_global c) refl (written_undone s ws N q f.2 h)
  where
    lives : in_cell c q ≡ true → outlives s q ≡ is_global c
    lives e = cell_outlives s c q (λ g. newer_than_open s c ws N f.2 h (f.1.1 g)) e

    go : (b : Bool) → in_cell c q ≡ b → (x : Bool) → is_global c ≡ x → cond (outlives s q) (is_written q ws) (owned_at s (saves_by ws) q) ≡ is_written q (writes_left s ws)
        → cond (outlives s q) (in_cell c q || is_written q ws) (owned_at s (saves_by ws) q) ≡ is_written q (cond x (fresh c sh ∷ writes_left s ws) (writes_left s ws))
    go true e true x ih =
        ap (λ o. cond o (in_cell c q || is_written q ws) (owned_at s (saves_by ws) q)) (lives e ∙ x)
        ∙ ap (λ b. b || is_written q ws) e ∙ sym (ap (λ b. b || is_written q (writes_left s ws)) e)
    go true e false x ih =
        let o : outlives s q ≡ false = lives e ∙ x in
        ap (λ o. cond o (in_cell c q || is_written q ws) (owned_at s (saves_by ws) q)) o
        ∙ sym (ap (λ o. cond o (is_written q ws) (owned_at s (saves_by ws) q)) o) ∙ ih
    go false e true x ih = ap (λ b. cond (outlives s q) (b || is_written q ws) (owned_at s (saves_by ws) q)) e ∙ ih ∙ sym (ap (λ b. b || is_written q (writes_left s ws)) e)
    go false e false x ih = ap (λ b. cond (outlives s q) (b || is_written q ws) (owned_at s (saves_by ws) q)) e ∙ ih
written_undone s (restore r ∷ ws) N q f h = absurd (true≢false (sym f.0))
written_undone s (tell x ∷ ws) N q f h = absurd (true≢false (sym f.0))

saves_undone : (s : SaveName) (ws : List Action) → saves_before s (saves_by ws) ≡ saves_by (writes_left s ws)
saves_undone s [] = refl
saves_undone s (save r ∷ ws) = go (same_save s r) (saves_undone s ws)
  where
    go : (b : Bool) → saves_before s (saves_by ws) ≡ saves_by (writes_left s ws) → cond b (saves_by ws) (saves_before s (saves_by ws)) ≡ saves_by (cond b ws (writes_left s ws))
    go true ih = refl
    go false ih = ih
saves_undone s (fresh c sh ∷ ws) = go (is_global c) (saves_undone s ws)
  where
    go : (b : Bool) → saves_before s (saves_by ws) ≡ saves_by (writes_left s ws) → saves_before s (saves_by ws) ≡ saves_by (cond b (fresh c sh ∷ writes_left s ws) (writes_left s ws))
    go true ih = ih
    go false ih = ih
saves_undone s (store l v ∷ ws) = go (outlives s (spot_of l)) (saves_undone s ws)
  where
    go : (b : Bool) → saves_before s (saves_by ws) ≡ saves_by (writes_left s ws) → saves_before s (saves_by ws) ≡ saves_by (cond b (store l v ∷ writes_left s ws) (writes_left s ws))
    go true ih = ih
    go false ih = ih
saves_undone s (restore r ∷ ws) = saves_undone s ws
saves_undone s (tell x ∷ ws) = saves_undone s ws

pub owned_restore : (s : SaveName) (ws : List Action) (N : Memory) → Applicable ws N → is_open s ws ≡ true → own (restore s) (owned_by ws) ≡ owned_by (note (restore s) ws)
owned_restore s ws N f h = λ i. record { now = λ q. written_undone s ws N q f h i; saves = saves_undone s ws i }

-- the saves that are owned are those that the writes open
pub open_owned : (s : SaveName) (ws : List Action) → has_save s (saves_by ws) ≡ is_open s ws
open_owned s [] = refl
open_owned s (save r ∷ ws) = ap (cond (same_save s r) true) (open_owned s ws)
open_owned s (fresh c sh ∷ ws) = open_owned s ws
open_owned s (store l v ∷ ws) = open_owned s ws
open_owned s (restore r ∷ ws) = open_owned s ws
open_owned s (tell x ∷ ws) = open_owned s ws
