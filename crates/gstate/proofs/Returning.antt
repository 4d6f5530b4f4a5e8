-- Steps back along the graphics stack.
use Rattle.std.proofs.Common.{◌≡◌, ℕ, ◌<◌, ◌≤◌, Bool, true, false, cond, ◌&&◌, nat_eq, List, [], ◌∷◌, length, slice_get, drop, Some, refl, ap, ◌∙◌, arith}
use Rattle.ps_kinds.specs.declared.graphics.GState.{GState}
use Rattle.ps_kinds.specs.declared.graphics.Layer.{Layer}
use Rattle.ps_memory.specs.Tree.{Change, wipes}
use Rattle.ps_meaning.specs.Answer.{names_taken}
use Rattle.gstate.specs.Layers.{size_changes, left_of, taken_back, lowest}

-- ---- the page's size

itself : (n : ℕ) → nat_eq n n ≡ true
itself n = grind arith

-- a size doesn't change to itself
pub size_stays : (g : GState) → size_changes g g ≡ []
unfolding size_changes
size_stays g = go (nat_eq g.wide g.wide) (nat_eq g.high g.high) (itself g.wide) (itself g.high)
  where
    go : (a b : Bool) → a ≡ true → b ≡ true → cond {A = List Change} (a && b) [] (wipes g.wide g.high ∷ []) ≡ []
    go true true p q = refl
    go true false p q = cc
    go false b p q = cc

-- a change of the page's size takes no names
pub sizes_take_none : (new old : GState) → names_taken (size_changes new old) ≡ 0
unfolding size_changes
sizes_take_none new old = go (nat_eq new.wide old.wide && nat_eq new.high old.high)
  where
    go : (b : Bool) → names_taken (cond b [] (wipes new.wide new.high ∷ [])) ≡ 0
    go true = refl
    go false = refl

-- ---- the newest layer

pub none_taken : (g : GState) (ls : List Layer) → ls ≡ [] → taken_back g ls ≡ (g, [])
unfolding taken_back
none_taken g [] e = refl
none_taken g (l ∷ ls) e = cc

pub layer_taken : (g : GState) (ls : List Layer) (l : Layer) (rest : List Layer) → ls ≡ l ∷ rest → taken_back g ls ≡ (l.state, left_of l rest)
unfolding taken_back
layer_taken g ls l rest e = ap (taken_back g) e

-- ---- down to the newest base

pub lowest_here : (ls : List Layer) → length ls ≤ 1 → lowest ls ≡ ls
lowest_here [] h = refl
lowest_here (l ∷ []) h = refl
lowest_here (l ∷ k ∷ ls) h = absurd (omega (arith, h))

pub lowest_base : (ls : List Layer) (l : Layer) → slice_get ls 0 ≡ Some l → l.base ≡ true → lowest ls ≡ ls
lowest_base [] l e b = cc
lowest_base (m ∷ []) l e b = refl
lowest_base (m ∷ k ∷ ls) l e b = let p : m ≡ l = cc in ap (λ b. cond b (m ∷ k ∷ ls) (lowest (k ∷ ls))) (ap (λ (x : Layer). x.base) p ∙ b)

pub lowest_below : (ls : List Layer) (l : Layer) → 1 < length ls → slice_get ls 0 ≡ Some l → l.base ≡ false → lowest ls ≡ lowest (drop 1 ls)
lowest_below [] l h e b = cc
lowest_below (m ∷ []) l h e b = absurd (omega (arith, h))
lowest_below (m ∷ k ∷ ls) l h e b = let p : m ≡ l = cc in ap (λ b. cond b (m ∷ k ∷ ls) (lowest (k ∷ ls))) (ap (λ (x : Layer). x.base) p ∙ b)
