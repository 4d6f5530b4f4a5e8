-- The search for a key along the places that have its hash.
use Rattle.std.proofs.Common.{◌≡◌, ℕ, zero, suc, ◌-◌, ◌<◌, ◌≤◌, ◌==◌, Bool, true, false, cond, List, [], ◌∷◌, length, drop, Option, Some, None, slice_get, option_map, refl, ap, sym, ◌∙◌, arith, true≢false}
use Rattle.std.specs.Ordering.{is_eq}
use Rattle.std.specs.FinMap.{find}
use Rattle.std.proofs.lemmas.Bool.{eq-eqb, eqb-true}
use Rattle.std.proofs.lemmas.List.{length-map}
use Rattle.std.proofs.lemmas.Option.{slice_get-map}
use Rattle.ps_objects.specs.declared.key.Key.{Key}
use Rattle.ps_memory.specs.Order.{key_cmp}
use Rattle.ps_memory.proofs.Order.{key_is}
use Rattle.dense_dict.specs.declared.hash_index.HashIndex.{HashIndex}
use Rattle.dense_dict.specs.declared.hash_index.Link.{Link}
use Rattle.dense_dict.specs.declared.entries.Seat.{Seat}
use Rattle.dense_dict.specs.Index.{passes, last_where, hashes, has_hash}
use Rattle.dense_dict.specs.Entries.{seat_hash, IsIndexed}
use Rattle.dense_dict.proofs.Walks.{last_within, again, passed, same_less}

abbrev pub Entry : Type 0
Entry = Key × Seat

-- the test whether an entry has the key
abbrev pub is_of : Key → Entry → Bool
is_of q e = is_eq (key_cmp q e.0)

passes_mapped : {A B : Type 0} (p : B → Bool) (f : A → B) (o : Option A) → passes (λ x. p (f x)) o ≡ passes p (option_map f o)
passes_mapped p f None = refl
passes_mapped p f (Some x) = refl

-- the index has the hash at a place where the entries have it
hash_seen : (x : HashIndex) (es : List Entry) (h i : ℕ) → IsIndexed x es → has_hash h x i ≡ passes (λ e. seat_hash e.0 == h) (slice_get es i)
hash_seen x es h i indexed =
    passes_mapped (λ n. n == h) (λ (l : Link). l.hash) (slice_get x.links.items i)
    ∙ ap (passes (λ n. n == h)) (sym (slice_get-map (λ (l : Link). l.hash) x.links.items i) ∙ ap (λ hs. slice_get hs i) indexed.hashed ∙ slice_get-map (λ (e : Entry). seat_hash e.0) es i)
    ∙ sym (passes_mapped (λ n. n == h) (λ (e : Entry). seat_hash e.0) (slice_get es i))

-- an entry that hasn't the key may be left out
pub unseen : (q : Key) (es : List Entry) (i : ℕ) → passes (is_of q) (slice_get es i) ≡ false → find key_cmp q (drop i es) ≡ find key_cmp q (drop (suc i) es)
unseen q [] zero h = refl
unseen q [] (suc i) h = refl
unseen q (e ∷ es) zero h = ap (λ b. cond b (Some e.1) (find key_cmp q es)) h
unseen q (e ∷ es) (suc i) h = unseen q es i h

other_key : (q : Key) (h : ℕ) (o : Option Entry) → h ≡ seat_hash q → passes (λ e. seat_hash e.0 == h) o ≡ false → passes (is_of q) o ≡ false
other_key q h None is n = refl
other_key q h (Some e) is n = go (is_of q e) refl
  where
    go : (b : Bool) → is_of q e ≡ b → b ≡ false
    go true t = absurd (true≢false (sym (eq-eqb (seat_hash e.0) h (ap seat_hash (sym (key_is q e.0 t)) ∙ sym is)) ∙ n))
    go false t = refl

-- the places between the last that has the hash and one may be left out
pub skipped : (x : HashIndex) (es : List Entry) (q : Key) (h n : ℕ) → IsIndexed x es → h ≡ seat_hash q → find key_cmp q (drop (last_where (has_hash h x) n) es) ≡ find key_cmp q (drop n es)
skipped x es q h zero indexed is = refl
skipped x es q h (suc n) indexed is = go (has_hash h x n) refl (skipped x es q h n indexed is)
  where
    go : (b : Bool) → has_hash h x n ≡ b → find key_cmp q (drop (last_where (has_hash h x) n) es) ≡ find key_cmp q (drop n es) → find key_cmp q (drop (cond b (suc n) (last_where (has_hash h x) n)) es) ≡ find key_cmp q (drop (suc n) es)
    go true e rest = refl
    go false e rest = rest ∙ unseen q es n (other_key q h (slice_get es n) is (sym (hash_seen x es h n indexed) ∙ e))

all_dropped : (es : List Entry) (n : ℕ) → n ≡ length es → drop n es ≡ []
all_dropped [] zero h = refl
all_dropped [] (suc n) h = absurd (omega (arith, h))
all_dropped (e ∷ es) zero h = absurd (omega (arith, h))
all_dropped (e ∷ es) (suc n) h = all_dropped es n (omega (arith, h))

as_many : (x : HashIndex) (es : List Entry) → IsIndexed x es → length (hashes x) ≡ length es
as_many x es indexed = ap length indexed.hashed ∙ length-map es (λ (e : Entry). seat_hash e.0)

-- ---- the loop

abbrev pub Searched : HashIndex → List Entry → Key → ℕ → ℕ → Type 0
Searched x es q h at = (find key_cmp q (drop at es) ≡ None) × (at ≡ last_where (has_hash h x) at) × (at ≤ length es)

pub search_begun : (x : HashIndex) (es : List Entry) (q : Key) (h at : ℕ) → IsIndexed x es → h ≡ seat_hash q → at ≡ last_where (has_hash h x) (length (hashes x)) → Searched x es q h at
search_begun x es q h at indexed is e = (
  ap (λ n. find key_cmp q (drop n es)) e ∙ skipped x es q h (length (hashes x)) indexed is ∙ ap (find key_cmp q) (all_dropped es (length (hashes x)) (as_many x es indexed)),
  e ∙ again (has_hash h x) (length (hashes x)) ∙ ap (last_where (has_hash h x)) (sym e),
  within (last_within (has_hash h x) (length (hashes x))) (as_many x es indexed),
)
  where
    within : last_where (has_hash h x) (length (hashes x)) ≤ length (hashes x) → length (hashes x) ≡ length es → at ≤ length es
    within a b = omega (arith, a, b, e)

pub key_found : (es : List Entry) (q : Key) (i : ℕ) → passes (is_of q) (slice_get es i) ≡ true → option_map (λ (e : Entry). e.0) (slice_get es i) ≡ Some q
key_found es q i = go (slice_get es i)
  where
    go : (o : Option Entry) → passes (is_of q) o ≡ true → option_map (λ (e : Entry). e.0) o ≡ Some q
    go None t = absurd (true≢false (sym t))
    go (Some e) t = ap Some (sym (key_is q e.0 t))

pub hash_there : (x : HashIndex) (h at : ℕ) → 0 < at → at ≡ last_where (has_hash h x) at → slice_get (hashes x) (at - 1) ≡ Some h
hash_there x h zero p e = absurd (omega (arith, p))
hash_there x h (suc m) p e = ap (slice_get (hashes x)) (same_less m) ∙ slice_get-map (λ (l : Link). l.hash) x.links.items m ∙ go (slice_get x.links.items m) (passed (has_hash h x) m e)
  where
    go : (o : Option Link) → passes (λ l. l.hash == h) o ≡ true → option_map (λ (l : Link). l.hash) o ≡ Some h
    go None t = absurd (true≢false (sym t))
    go (Some l) t = ap Some (eqb-true l.hash h t)

pub older_below : (x : HashIndex) (h at next : ℕ) → 0 < at → next ≡ last_where (has_hash h x) (at - 1) → next < at
older_below x h at next p e =
    let within = last_within (has_hash h x) (at - 1) in
    omega (arith, within, e, p)

pub search_goes_on : (x : HashIndex) (es : List Entry) (q : Key) (h at next : ℕ) → IsIndexed x es → h ≡ seat_hash q → Searched x es q h at → 0 < at → passes (is_of q) (slice_get es (at - 1)) ≡ false → next ≡ last_where (has_hash h x) (at - 1) → Searched x es q h next
search_goes_on x es q h zero next indexed is s p n e = absurd (omega (arith, p))
search_goes_on x es q h (suc m) next indexed is s p n e =
    let e' : next ≡ last_where (has_hash h x) m = e ∙ ap (last_where (has_hash h x)) (same_less m) in
    let n' : passes (is_of q) (slice_get es m) ≡ false = sym (ap (λ i. passes (is_of q) (slice_get es i)) (same_less m)) ∙ n in (
      ap (λ k. find key_cmp q (drop k es)) e' ∙ skipped x es q h m indexed is ∙ unseen q es m n' ∙ s.0,
      e' ∙ again (has_hash h x) m ∙ ap (last_where (has_hash h x)) (sym e'),
      within (last_within (has_hash h x) m) e' s.2,
    )
  where
    within : last_where (has_hash h x) m ≤ m → next ≡ last_where (has_hash h x) m → suc m ≤ length es → next ≤ length es
    within a b c = omega (arith, a, b, c)

pub search_ended : (es : List Entry) (q : Key) (at : ℕ) → at ≤ 0 → find key_cmp q (drop at es) ≡ None → find key_cmp q es ≡ None
search_ended es q zero h e = e
search_ended es q (suc m) h e = absurd (omega (arith, h))
