-- A second look at a place tells nothing new.
use Rattle.std.proofs.Common.{◌≡◌, Bool, true, false, cond, ◌||◌, ◌&&◌, List, [], ◌∷◌, ◌++◌, refl, ap, ◌∙◌, nat_eq, arith}
use Rattle.std.proofs.lemmas.Bool.Decides.{nat_tests}
use Rattle.ps_objects.specs.declared.place.Loc.{Loc}
use Rattle.ps_memory.specs.Memory.{Slot, entry, access, item, whole, Spot, held, byte, rand, paper, spot_of}
use Rattle.ps_memory.specs.Ownership.{same_cell, same_slot, same_spot, owns, is_among}
use Rattle.ps_memory.specs.Track.{Track, saw}
use Rattle.ps_memory.proofs.Order.{cell_itself, key_itself}
use Rattle.ps_memory.proofs.Track.{in_end}

slot_itself : (t : Slot) → same_slot t t ≡ true
slot_itself (entry k) = key_itself k
slot_itself access = refl
slot_itself (item i) = grind (arith, nat_tests)
slot_itself whole = refl

both_so : (a b : Bool) → a ≡ true → b ≡ true → (a && b) ≡ true
both_so a b p q = ap (λ x. x && b) p ∙ q

pub spot_itself : (p : Spot) → same_spot p p ≡ true
spot_itself (held c t) = both_so (same_cell c c) (same_slot t t) (cell_itself c) (slot_itself t)
spot_itself (byte c i) = both_so (same_cell c c) (nat_eq i i) (cell_itself c) (grind (arith, nat_tests))
spot_itself rand = refl
spot_itself paper = refl

abbrev seen_as : Track → List Loc → Track
seen_as k xs = record { owned = k.owned; seen = xs; written = k.written }

-- a place that was looked at is owned or seen
pub seen_again : (l : Loc) (k : Track) → saw l (saw l k) ≡ saw l k
seen_again l k = ap (seen_as k) (go (owns k.owned l) (is_among l k.seen) refl)
  where
    now_there : is_among l (k.seen ++ l ∷ []) ≡ true
    now_there = in_end l l k.seen ∙ ap (λ b. b || is_among l k.seen) (spot_itself (spot_of l))

    go : (x b : Bool) → is_among l k.seen ≡ b → cond (x || is_among l (cond (x || b) k.seen (k.seen ++ l ∷ []))) (cond (x || b) k.seen (k.seen ++ l ∷ [])) (cond (x || b) k.seen (k.seen ++ l ∷ []) ++ l ∷ []) ≡ cond (x || b) k.seen (k.seen ++ l ∷ [])
    go true b e = refl
    go false true e = ap (λ b. cond b k.seen (k.seen ++ l ∷ [])) e
    go false false e = ap (λ b. cond b (k.seen ++ l ∷ []) ((k.seen ++ l ∷ []) ++ l ∷ [])) now_there
