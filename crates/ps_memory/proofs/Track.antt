-- What is known of a run as it goes on is what its trail tells.
use Rattle.std.proofs.Common.{◌≡◌, Bool, true, false, cond, ◌||◌, List, [], ◌∷◌, ◌++◌, Some, refl, sym, ap, ◌∙◌, append_assoc, append-nil}
use Rattle.ps_objects.specs.declared.place.Loc.{Loc}
use Rattle.ps_memory.specs.Memory.{Memory, value_at, shape_of, store, fresh, save, restore, tell, perform}
use Rattle.ps_memory.specs.Tree.{Tree, ends, looks, acts, asks, Step, trail}
use Rattle.ps_memory.specs.Ownership.{has_save, owns, same_loc, is_among, looked_from, outer_from}
use Rattle.ps_memory.specs.Writes.{writes_from}
use Rattle.ps_memory.specs.Track.{Track, saw, track_acted, track_on, outer_on, nothing_tracked, TrackLaw}

abbrev Alike : List Loc → List Loc → Type 0
Alike xs ys = (l : Loc) → is_among l xs ≡ is_among l ys

or_swap : (a b c : Bool) → (a || (b || c)) ≡ (b || (a || c))
or_swap true true c = refl
or_swap true false c = refl
or_swap false b c = refl

pub in_end : (l k : Loc) (xs : List Loc) → is_among l (xs ++ k ∷ []) ≡ is_among l (k ∷ xs)
in_end l k [] = refl
in_end l k (x ∷ xs) = ap (λ b. same_loc l x || b) (in_end l k xs) ∙ or_swap (same_loc l x) (same_loc l k) (is_among l xs)

seen_by : {A : Type 0} (t : Tree A) (M : Memory) (k : Track) (known : List Loc) → Alike k.seen known → (track_on t M k).seen ≡ k.seen ++ looked_from k.owned known (trail t M)
seen_by (ends a) M k known h = sym (append-nil k.seen)
seen_by (acts w t) M k known h = seen_by t (perform w M) (track_acted w k) known h
seen_by (asks c f) M k known h = seen_by (f (shape_of M c)) M k known h
seen_by (looks l f) M k known h =
    go (owns k.owned l || is_among l k.seen) (λ seen known h. seen_by (f (value_at M l)) M (record { owned = k.owned; seen = seen; written = k.written }) known h)
    ∙ ap (λ b. k.seen ++ cond (owns k.owned l || b) (looked_from k.owned known (trail (f (value_at M l)) M)) (l ∷ looked_from k.owned (l ∷ known) (trail (f (value_at M l)) M))) (h l)
  where
    rest : List Step
    rest = trail (f (value_at M l)) M

    go : (b : Bool)
        → ((seen known : List Loc) → Alike seen known → (track_on (f (value_at M l)) M (record { owned = k.owned; seen = seen; written = k.written })).seen ≡ seen ++ looked_from k.owned known rest)
        → (track_on (f (value_at M l)) M (record { owned = k.owned; seen = cond b k.seen (k.seen ++ l ∷ []); written = k.written })).seen
        ≡ k.seen ++ cond b (looked_from k.owned known rest) (l ∷ looked_from k.owned (l ∷ known) rest)
    go true ih = ih k.seen known h
    go false ih =
        ih (k.seen ++ l ∷ []) (l ∷ known) (λ m. in_end m l k.seen ∙ ap (λ b. same_loc m l || b) (h m))
        ∙ append_assoc k.seen (l ∷ []) (looked_from k.owned (l ∷ known) rest)

written_by : {A : Type 0} (t : Tree A) (M : Memory) (k : Track) → (track_on t M k).written ≡ writes_from k.written (trail t M)
written_by (ends a) M k = refl
written_by (looks l f) M k = written_by (f (value_at M l)) M (saw l k)
written_by (acts w t) M k = written_by t (perform w M) (track_acted w k)
written_by (asks c f) M k = written_by (f (shape_of M c)) M k

outer_by : {A : Type 0} (t : Tree A) (M : Memory) (k : Track) → outer_on t M k ≡ outer_from k.owned (trail t M)
outer_by (ends a) M k = refl
outer_by (looks l f) M k = outer_by (f (value_at M l)) M (saw l k)
outer_by (acts (restore s) t) M k = ap (λ o. cond (has_save s k.owned.saves) o (Some s)) (outer_by t (perform (restore s) M) (track_acted (restore s) k))
outer_by (acts (store l v) t) M k = outer_by t (perform (store l v) M) (track_acted (store l v) k)
outer_by (acts (fresh c sh) t) M k = outer_by t (perform (fresh c sh) M) (track_acted (fresh c sh) k)
outer_by (acts (save s) t) M k = outer_by t (perform (save s) M) (track_acted (save s) k)
outer_by (acts (tell o) t) M k = outer_by t M (track_acted (tell o) k)
outer_by (asks c f) M k = outer_by (f (shape_of M c)) M k

pub track_law : (A : Type 0) → TrackLaw A
track_law A t M = record {
  seen = seen_by t M nothing_tracked [] (λ l. refl);
  written = written_by t M nothing_tracked;
  outer = outer_by t M nothing_tracked;
}
