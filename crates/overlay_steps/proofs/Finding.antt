-- What an overlay finds at a place is what stands there.
use Rattle.std.proofs.Common.{◌≡◌, ℕ, ◌<◌, Bool, true, false, cond, ◌||◌, List, [], ◌∷◌, Option, Some, None, refl, sym, ap, ◌∙◌, true≢false, nat_eq, length, is_some, arith}
use Rattle.ps_objects.specs.declared.cell.Cell.{Cell}
use Rattle.ps_shapes.specs.Sheet.{Sheet}
use Rattle.ps_objects.specs.declared.place.Loc.{Loc}
use Rattle.ps_objects.specs.declared.place.Loc.TheVariants as loc
use Rattle.ps_objects.specs.declared.place.Value.TheVariants as value
use Rattle.ps_objects.specs.declared.place.Shape.{Shape}
use Rattle.ps_objects.specs.declared.place.Value.{Value}
use Rattle.ps_memory.specs.Memory.{Memory, Spot, held, byte, rand, paper, spot_of, is, at, Action, store, fresh, save, restore, tell}
use Rattle.ps_memory.specs.Ownership.{same_spot, in_cell}
use Rattle.ps_memory.specs.Writes.{apply, Applicable}
use Rattle.overlay_steps.specs.Newest.{newest, new_at, found_in, is_written, newest_value, put_value, put_at, made, made_at, new_or_old, stored_or, Held}
use Rattle.overlay_steps.specs.Steps.{paper_put}
use Rattle.overlay_steps.proofs.Placed.{stored_there}
use Rattle.overlay_steps.proofs.Newest.{found_by, held_by, unused_place, newest_there, newest_below}

not_equal : (i n : ℕ) → i < n → nat_eq i n ≡ false
not_equal i n h = grind (arith, h)

equal_itself : (n : ℕ) → nat_eq n n ≡ true
equal_itself n = grind arith

-- the value at the place that the index tells
pub indexed_value : (p : Spot) (ws : List Action) (o : Option ℕ) → newest p ws ≡ o → newest_value p ws ≡ elim o as (λ _. Option Value) [ None ↦ None | Some i ↦ put_value i ws ]
indexed_value p [] None e = refl
indexed_value p [] (Some i) e = cc
indexed_value p (store k v ∷ ws) o e = go (same_spot (spot_of k) p) o e (indexed_value p ws)
  where
    go : (b : Bool) (o : Option ℕ) → cond b (Some (length ws)) (newest p ws) ≡ o
        → ((o : Option ℕ) → newest p ws ≡ o → newest_value p ws ≡ elim o as (λ _. Option Value) [ None ↦ None | Some i ↦ put_value i ws ])
        → cond b (Some v) (newest_value p ws) ≡ elim o as (λ _. Option Value) [ None ↦ None | Some i ↦ cond (nat_eq i (length ws)) (Some v) (put_value i ws) ]
    go true None e ih = cc
    go true (Some i) e ih = sym (ap (λ o. elim o as (λ _. Option Value) [ None ↦ Some v | Some i ↦ cond (nat_eq i (length ws)) (Some v) (put_value i ws) ]) (sym e) ∙ ap (λ b. cond b (Some v) (put_value (length ws) ws)) (equal_itself (length ws)))
    go false None e ih = ih None e
    go false (Some i) e ih = ih (Some i) e ∙ ap (λ b. cond b (Some v) (put_value i ws)) (sym (not_equal i (length ws) (newest_below p ws i e)))
indexed_value p (fresh c sh ∷ ws) None e = indexed_value p ws None e
indexed_value p (fresh c sh ∷ ws) (Some i) e = indexed_value p ws (Some i) e ∙ ap (λ b. cond b None (put_value i ws)) (sym (not_equal i (length ws) (newest_below p ws i e)))
indexed_value p (save s ∷ ws) None e = indexed_value p ws None e
indexed_value p (save s ∷ ws) (Some i) e = indexed_value p ws (Some i) e ∙ ap (λ b. cond b None (put_value i ws)) (sym (not_equal i (length ws) (newest_below p ws i e)))
indexed_value p (restore s ∷ ws) None e = indexed_value p ws None e
indexed_value p (restore s ∷ ws) (Some i) e = indexed_value p ws (Some i) e ∙ ap (λ b. cond b None (put_value i ws)) (sym (not_equal i (length ws) (newest_below p ws i e)))
indexed_value p (tell s ∷ ws) None e = indexed_value p ws None e
indexed_value p (tell s ∷ ws) (Some i) e = indexed_value p ws (Some i) e ∙ ap (λ b. cond b None (put_value i ws)) (sym (not_equal i (length ws) (newest_below p ws i e)))

-- ---- stores stand above the cell that they are in

newest_none : (p : Spot) (ws : List Action) → newest p ws ≡ None → newest_value p ws ≡ None
newest_none p ws e = indexed_value p ws None e

none_in_new : (c : Cell) (sh : Shape) (p : Spot) (ws : List Action) (N : Memory) → Applicable (fresh c sh ∷ ws) N → Held N → in_cell c p ≡ true → newest_value p ws ≡ None
none_in_new c sh p ws N f h e = newest_none p ws (go (newest p ws) refl)
  where
    go : (o : Option ℕ) → newest p ws ≡ o → o ≡ None
    go None x = refl
    go (Some i) x = absurd (true≢false (sym (newest_there p ws N i f.2 h x) ∙ unused_place c p (apply ws N) f.1.0 (held_by ws N f.2 h) e))

made_new : (c : Cell) (sh : Shape) (p : Spot) (ws : List Action) → in_cell c p ≡ true → made_at p (fresh c sh ∷ ws) ≡ Some sh
made_new c sh (held d t) ws e = ap (λ b. cond b (Some sh) (made d ws)) e
made_new c sh (byte d i) ws e = ap (λ b. cond b (Some sh) (made d ws)) e
made_new c sh rand ws e = absurd (true≢false (sym e))
made_new c sh paper ws e = absurd (true≢false (sym e))

made_old : (c : Cell) (sh : Shape) (p : Spot) (ws : List Action) → in_cell c p ≡ false → made_at p (fresh c sh ∷ ws) ≡ made_at p ws
made_old c sh (held d t) ws e = ap (λ b. cond b (Some sh) (made d ws)) e
made_old c sh (byte d i) ws e = ap (λ b. cond b (Some sh) (made d ws)) e
made_old c sh rand ws e = refl
made_old c sh paper ws e = refl

made_store : (l : Loc) (v : Value) (p : Spot) (ws : List Action) → made_at p (store l v ∷ ws) ≡ made_at p ws
made_store l v (held d t) ws = refl
made_store l v (byte d i) ws = refl
made_store l v rand ws = refl
made_store l v paper ws = refl

found_parts : (p : Spot) (ws : List Action) (N : Memory) → Applicable ws N → Held N → found_in p ws N ≡ stored_or (newest_value p ws) (new_or_old (made_at p ws) p N)
found_parts (held c t) [] N f h = refl
found_parts (byte c i) [] N f h = refl
found_parts rand [] N f h = refl
found_parts paper [] N f h = refl
found_parts p (store k v ∷ ws) N f h = go (same_spot (spot_of k) p) (found_parts p ws N f.2 h) ∙ ap (λ o. stored_or (newest_value p (store k v ∷ ws)) (new_or_old o p N)) (sym (made_store k v p ws))
  where
    go : (b : Bool) → found_in p ws N ≡ stored_or (newest_value p ws) (new_or_old (made_at p ws) p N)
        → cond b (is v) (found_in p ws N) ≡ stored_or (cond b (Some v) (newest_value p ws)) (new_or_old (made_at p ws) p N)
    go true ih = refl
    go false ih = ih
found_parts p (fresh c sh ∷ ws) N f h = go (in_cell c p) refl (found_parts p ws N f.2 h)
  where
    go : (b : Bool) → in_cell c p ≡ b → found_in p ws N ≡ stored_or (newest_value p ws) (new_or_old (made_at p ws) p N)
        → cond b (new_at sh p) (found_in p ws N) ≡ stored_or (newest_value p ws) (new_or_old (made_at p (fresh c sh ∷ ws)) p N)
    go true e ih = ap (λ o. new_or_old o p N) (sym (made_new c sh p ws e)) ∙ ap (λ o. stored_or o (new_or_old (made_at p (fresh c sh ∷ ws)) p N)) (sym (none_in_new c sh p ws N f h e))
    go false e ih = ih ∙ ap (λ o. stored_or (newest_value p ws) (new_or_old o p N)) (sym (made_old c sh p ws e))
found_parts (held c t) (save s ∷ ws) N f h = found_parts (held c t) ws N f.2 h
found_parts (byte c i) (save s ∷ ws) N f h = found_parts (byte c i) ws N f.2 h
found_parts rand (save s ∷ ws) N f h = found_parts rand ws N f.2 h
found_parts paper (save s ∷ ws) N f h = found_parts paper ws N f.2 h
found_parts p (restore s ∷ ws) N f h = absurd (true≢false (sym f.0))
found_parts p (tell x ∷ ws) N f h = absurd (true≢false (sym f.0))

-- what stands at a place after writes: the newest store there, or what a new cell has, or what was there before
pub found_at : (p : Spot) (ws : List Action) (N : Memory) → Applicable ws N → Held N → at (apply ws N) p ≡ stored_or (newest_value p ws) (new_or_old (made_at p ws) p N)
found_at p ws N f h = found_by p ws N f ∙ found_parts p ws N f h

-- a place is owned where it has a store of its own, or its cell is new
or_some : {X : Type 0} (b : Bool) (v : X) (o : Option X) (c : Bool) → (is_some (cond b (Some v) o) || c) ≡ (b || (is_some o || c))
or_some true v o c = refl
or_some false v o c = refl

or_swap : (a b c : Bool) → (a || (b || c)) ≡ (b || (a || c))
or_swap true true c = refl
or_swap true false c = refl
or_swap false b c = refl

pub written_at : (p : Spot) (ws : List Action) → is_written p ws ≡ (is_some (newest_value p ws) || is_some (made_at p ws))
written_at (held c t) [] = refl
written_at (byte c t) [] = refl
written_at rand [] = refl
written_at paper [] = refl
written_at p (store k v ∷ ws) =
    ap (λ b. same_spot (spot_of k) p || b) (written_at p ws ∙ ap (λ o. is_some (newest_value p ws) || is_some o) (sym (made_store k v p ws)))
    ∙ sym (or_some (same_spot (spot_of k) p) v (newest_value p ws) (is_some (made_at p (store k v ∷ ws))))
written_at p (fresh c sh ∷ ws) = go (in_cell c p) refl (written_at p ws)
  where
    or_true : (a : Bool) → true ≡ (a || true)
    or_true true = refl
    or_true false = refl

    go : (b : Bool) → in_cell c p ≡ b → is_written p ws ≡ (is_some (newest_value p ws) || is_some (made_at p ws)) → (b || is_written p ws) ≡ (is_some (newest_value p ws) || is_some (made_at p (fresh c sh ∷ ws)))
    go true e ih = or_true (is_some (newest_value p ws)) ∙ ap (λ o. is_some (newest_value p ws) || is_some o) (sym (made_new c sh p ws e))
    go false e ih = ih ∙ ap (λ o. is_some (newest_value p ws) || is_some o) (sym (made_old c sh p ws e))
written_at (held c t) (save s ∷ ws) = written_at (held c t) ws
written_at (byte c i) (save s ∷ ws) = written_at (byte c i) ws
written_at rand (save s ∷ ws) = written_at rand ws
written_at paper (save s ∷ ws) = written_at paper ws
written_at (held c t) (restore s ∷ ws) = written_at (held c t) ws
written_at (byte c i) (restore s ∷ ws) = written_at (byte c i) ws
written_at rand (restore s ∷ ws) = written_at rand ws
written_at paper (restore s ∷ ws) = written_at paper ws
written_at (held c t) (tell s ∷ ws) = written_at (held c t) ws
written_at (byte c i) (tell s ∷ ws) = written_at (byte c i) ws
written_at rand (tell s ∷ ws) = written_at rand ws
written_at paper (tell s ∷ ws) = written_at paper ws

-- ---- paper that is put in the place of other paper

value_there : (p : Spot) (ws : List Action) → is_some (newest_value p ws) ≡ is_some (newest p ws)
value_there p [] = refl
value_there p (store k v ∷ ws) = go (same_spot (spot_of k) p) (value_there p ws)
  where
    go : (b : Bool) → is_some (newest_value p ws) ≡ is_some (newest p ws) → is_some (cond b (Some v) (newest_value p ws)) ≡ is_some (cond b (Some (length ws)) (newest p ws))
    go true ih = refl
    go false ih = ih
value_there p (fresh c sh ∷ ws) = value_there p ws
value_there p (save s ∷ ws) = value_there p ws
value_there p (restore s ∷ ws) = value_there p ws
value_there p (tell x ∷ ws) = value_there p ws

pub paper_there : (x : Sheet) (i : ℕ) (ws us : List Action) (o : Option Value) → newest paper ws ≡ Some i → o ≡ put_value i ws → us ≡ put_at i (value.Paper x) ws → us ≡ paper_put o x ws
paper_there x i ws us (Some v) n e u = stored_there loc.Paper (value.Paper x) i ws us n refl u
paper_there x i ws us None n e u = absurd (true≢false (sym (ap is_some n) ∙ sym (value_there paper ws) ∙ ap is_some (indexed_value paper ws (Some i) n) ∙ sym (ap is_some e)))

pub paper_missing : (ws : List Action) → newest paper ws ≡ None → newest_value paper ws ≡ None
paper_missing ws e = indexed_value paper ws None e
