-- Writes done one after another.
use Rattle.std.proofs.Common.{◌≡◌, true, ℕ, zero, suc, ◌-◌, ◌<◌, List, [], ◌∷◌, Some, refl, sym, ap, subst, ◌∙◌, length, drop, slice_get, arith}
use Rattle.ps_memory.specs.Memory.{Memory, Action, perform}
use Rattle.ps_memory.specs.Frame.{Allowed}
use Rattle.ps_memory.specs.Writes.{apply, Applicable}
use Rattle.vm_mem.specs.declared.writes.Write.{Write}
use Rattle.vm_mem.specs.Conditions.{page_is_here}
use Rattle.vm_mem.specs.Writes.{action_of, actions}
use Rattle.vm_mem.proofs.Conditions.{here_applied}

-- what is left begins with the action of the write that stands there
next_action : (ws : List Write) (i : ℕ) (w : Write) → slice_get ws i ≡ Some w → drop i (actions ws) ≡ action_of w ∷ drop (suc i) (actions ws)
next_action [] i w h = cc
next_action (x ∷ ws) zero w h = let e : x ≡ w = cc in ap (λ y. action_of y ∷ actions ws) e
next_action (x ∷ ws) (suc i) w h = next_action ws i w h

older_applicable : (ws : List Action) (i : ℕ) (M : Memory) → Applicable ws M → Applicable (drop i ws) M
older_applicable ws zero M h = h
older_applicable [] (suc i) M h = tt
older_applicable (w ∷ ws) (suc i) M h = older_applicable ws i M h.2

next_at : (ws : List Write) (j : ℕ) (w : Write) → 0 < j → slice_get ws (j - 1) ≡ Some w → drop (j - 1) (actions ws) ≡ action_of w ∷ drop j (actions ws)
next_at ws j w l h = let s : suc (j - 1) ≡ j = omega arith in next_action ws (j - 1) w h ∙ ap (λ n. action_of w ∷ drop n (actions ws)) s

-- a write is allowed once the older ones are done
pub next_allowed : (ws : List Write) (M m : Memory) (j : ℕ) (w : Write) → Applicable (actions ws) M → m ≡ apply (drop j (actions ws)) M → slice_get ws (j - 1) ≡ Some w → 0 < j → Allowed (action_of w) m
next_allowed ws M m j w all done is low =
    let all' : Applicable (action_of w ∷ drop j (actions ws)) M = subst (λ us. Applicable us M) (next_at ws j w low is) (older_applicable (actions ws) (j - 1) M all) in
    subst (Allowed (action_of w)) (sym done) all'.1

pub next_done : (ws : List Write) (M m n : Memory) (j : ℕ) (w : Write) → m ≡ apply (drop j (actions ws)) M → n ≡ perform (action_of w) m → slice_get ws (j - 1) ≡ Some w → 0 < j → n ≡ apply (drop (j - 1) (actions ws)) M
next_done ws M m n j w done next is low = next ∙ ap (perform (action_of w)) done ∙ sym (ap (λ us. apply us M) (next_at ws j w low is))

-- what is done leaves the paper here
pub still_here : (ws : List Action) (M m : Memory) → page_is_here M ≡ true → m ≡ apply ws M → page_is_here m ≡ true
still_here ws M m h e = ap page_is_here e ∙ here_applied ws M h

-- at first none is done
pub none_done : (ws : List Write) (M m : Memory) → m ≡ M → m ≡ apply (drop (length ws) (actions ws)) M
none_done ws M m e = e ∙ sym (ap (λ us. apply us M) (none_left ws))
  where
    none_left : (ws : List Write) → drop (length ws) (actions ws) ≡ []
    none_left [] = refl
    none_left (w ∷ ws) = none_left ws
