-- The way from a place to the last one before it in its bucket.
use Rattle.std.proofs.Common.{◌≡◌, ℕ, zero, suc, ◌-◌, ◌<◌, ◌≤◌, ◌==◌, Bool, true, false, cond, [], length, Option, Some, None, get_or, slice_get, option_map, refl, ap, sym, subst, ◌∙◌, arith, true≢false, ◌≢◌}
use Rattle.std.proofs.lemmas.Bool.{eq-eqb, eqb-true}
use Rattle.std.proofs.lemmas.List.{length-map}
use Rattle.std.proofs.lemmas.Option.{slice_get-map, slice_get-get_or}
use Rattle.dense_dict.specs.declared.hash_index.HashIndex.{HashIndex}
use Rattle.dense_dict.specs.declared.hash_index.Link.{Link}
use Rattle.dense_dict.specs.Index.{bucket, passes, last_where, hashes, has_hash, among, shares, IsLinked}

pub last_within : (p : ℕ → Bool) (n : ℕ) → last_where p n ≤ n
last_within p zero = omega arith
last_within p (suc n) = go (p n) (last_within p n)
  where
    go : (b : Bool) → last_where p n ≤ n → cond b (suc n) (last_where p n) ≤ suc n
    go true h = omega arith
    go false h = omega (arith, h)

-- the last place that passes p is among those before the last that passes q, where q is passed wherever p is
pub coarser : (p q : ℕ → Bool) → ((i : ℕ) → q i ≡ false → p i ≡ false) → (n : ℕ) → last_where p (last_where q n) ≡ last_where p n
coarser p q h zero = refl
coarser p q h (suc n) = go (q n) refl (coarser p q h n)
  where
    go : (b : Bool) → q n ≡ b → last_where p (last_where q n) ≡ last_where p n → last_where p (cond b (suc n) (last_where q n)) ≡ last_where p (suc n)
    go true e rest = refl
    go false e rest = rest ∙ sym (ap (λ b. cond b (suc n) (last_where p n)) (h n e))

pub again : (p : ℕ → Bool) (n : ℕ) → last_where p n ≡ last_where p (last_where p n)
again p n = sym (coarser p p (λ i e. e) n)

-- the place before one that is the last to pass passes
pub passed : (p : ℕ → Bool) (m : ℕ) → suc m ≡ last_where p (suc m) → p m ≡ true
passed p m = go (p m) (last_within p m)
  where
    go : (b : Bool) → last_where p m ≤ m → suc m ≡ cond b (suc m) (last_where p m) → b ≡ true
    go true w e = refl
    go false w e = absurd (omega (arith, w, e))

same_last : (p q : ℕ → Bool) (n : ℕ) → ((i : ℕ) → p i ≡ q i) → last_where p n ≡ last_where q n
same_last p q zero h = refl
same_last p q (suc n) h = ap (λ b. cond b (suc n) (last_where p n)) (h n) ∙ ap (cond (q n) (suc n)) (same_last p q n h)

pub same_less : (m : ℕ) → suc m - 1 ≡ m
same_less m = omega arith

pub unlike : (a b : ℕ) → a ≢ b → (a == b) ≡ false
unlike a b h = go (a == b) refl
  where
    go : (t : Bool) → (a == b) ≡ t → t ≡ false
    go true e = absurd (h (eqb-true a b e))
    go false e = refl

-- who isn't in the bucket hasn't the hash
apart : (x : HashIndex) (hash i : ℕ) → shares hash x i ≡ false → has_hash hash x i ≡ false
apart x hash i = go (slice_get x.links.items i)
  where
    go : (o : Option Link) → passes (λ l. bucket (length x.heads.items) l.hash == bucket (length x.heads.items) hash) o ≡ false → passes (λ l. l.hash == hash) o ≡ false
    go None e = refl
    go (Some l) e = unlike l.hash hash (λ h. true≢false (sym (eq-eqb _ _ (ap (bucket (length x.heads.items)) h)) ∙ e))

-- from the last place of the bucket on, the last of the hash is found
pub from_bucket : (x : HashIndex) (hash n : ℕ) → last_where (has_hash hash x) (last_where (shares hash x) n) ≡ last_where (has_hash hash x) n
from_bucket x hash n = coarser (has_hash hash x) (shares hash x) (apart x hash) n

pub found : (x : HashIndex) (hash at g : ℕ) (l : Link) → Some l ≡ slice_get x.links.items (at - 1) → 0 < at → l.hash ≡ hash → last_where (has_hash hash x) at ≡ g → at ≡ g
found x hash zero g l s p e h = absurd (omega (arith, p))
found x hash (suc m) g l s p e h = sym (ap (λ b. cond b (suc m) (last_where (has_hash hash x) m)) is) ∙ h
  where
    is : has_hash hash x m ≡ true
    is = ap (passes (λ k. k.hash == hash)) (sym (s ∙ ap (slice_get x.links.items) (same_less m))) ∙ eq-eqb l.hash hash e

-- the bucket of a place that was led to
same_bucket : (x : HashIndex) (hash m : ℕ) (l : Link) → Some l ≡ slice_get x.links.items m → suc m ≡ last_where (shares hash x) (suc m) → bucket (length x.heads.items) l.hash ≡ bucket (length x.heads.items) hash
same_bucket x hash m l s e = eqb-true _ _ (ap (passes (λ k. bucket (length x.heads.items) k.hash == bucket (length x.heads.items) hash)) s ∙ passed (shares hash x) m e)

-- the next place of the bucket
next_is : (x : HashIndex) (hash m : ℕ) (l : Link) → IsLinked x → Some l ≡ slice_get x.links.items m → suc m ≡ last_where (shares hash x) (suc m) → l.next ≡ last_where (shares hash x) m
next_is x hash m l linked s e = linked.nexts m l (sym s) ∙ ap (λ b. last_where (among (length x.heads.items) b x.links.items) m) (same_bucket x hash m l s e)

pub next_below : (x : HashIndex) (hash at : ℕ) (l : Link) → IsLinked x → Some l ≡ slice_get x.links.items (at - 1) → 0 < at → at ≡ last_where (shares hash x) at → l.next < at
next_below x hash zero l linked s p e = absurd (omega (arith, p))
next_below x hash (suc m) l linked s p e =
    let is = next_is x hash m l linked (s ∙ ap (slice_get x.links.items) (same_less m)) e in
    let within = last_within (shares hash x) m in
    omega (arith, is, within)

pub next_kept : (x : HashIndex) (hash at : ℕ) (l : Link) → IsLinked x → Some l ≡ slice_get x.links.items (at - 1) → 0 < at → at ≡ last_where (shares hash x) at → l.next ≡ last_where (shares hash x) l.next
next_kept x hash zero l linked s p e = absurd (omega (arith, p))
next_kept x hash (suc m) l linked s p e =
    let is = next_is x hash m l linked (s ∙ ap (slice_get x.links.items) (same_less m)) e in
    is ∙ again (shares hash x) m ∙ ap (last_where (shares hash x)) (sym is)

pub next_gives : (x : HashIndex) (hash at g : ℕ) (l : Link) → IsLinked x → Some l ≡ slice_get x.links.items (at - 1) → 0 < at → l.hash ≢ hash → last_where (has_hash hash x) at ≡ g → at ≡ last_where (shares hash x) at
    → last_where (has_hash hash x) l.next ≡ g
next_gives x hash zero g l linked s p n h e = absurd (omega (arith, p))
next_gives x hash (suc m) g l linked s p n h e =
    let here = s ∙ ap (slice_get x.links.items) (same_less m) in
    let is = next_is x hash m l linked here e in
    ap (last_where (has_hash hash x)) is ∙ from_bucket x hash m
    ∙ sym (ap (λ b. cond b (suc m) (last_where (has_hash hash x) m)) (ap (passes (λ k. k.hash == hash)) (sym here) ∙ unlike l.hash hash n)) ∙ h

pub nothing_more : (p : ℕ → Bool) (at g : ℕ) → at ≤ 0 → last_where p at ≡ g → 0 ≡ g
nothing_more p zero g h e = e
nothing_more p (suc m) g h e = absurd (omega (arith, h))

-- ---- where a walk begins

pub head_is : (x : HashIndex) (hash h n : ℕ) → IsLinked x → n ≡ length x.heads.items → bucket n hash < n → h ≡ get_or x.heads.items (bucket n hash) h → h ≡ last_where (shares hash x) (length x.links.items)
head_is x hash h n linked len within s = some_is (ap Some s ∙ sym (slice_get-get_or x.heads.items (bucket n hash) h (omega (arith, len, within))) ∙ ap (λ m. slice_get x.heads.items (bucket m hash)) len ∙ linked.ends (bucket (length x.heads.items) hash) (subst (λ m. bucket m hash < m) len within))
  where
    some_is : {m : ℕ} → Some h ≡ Some m → h ≡ m
    some_is e = cc

pub as_long : (x : HashIndex) → length (hashes x) ≡ length x.links.items
as_long x = length-map x.links.items (λ l. l.hash)

-- where no place stands, none was led to
pub none_there : (x : HashIndex) (hash at g : ℕ) → slice_get x.links.items (at - 1) ≡ None → 0 < at → at ≡ last_where (shares hash x) at → 0 ≡ g
none_there x hash zero g s p e = absurd (omega (arith, p))
none_there x hash (suc m) g s p e =
    let here : slice_get x.links.items m ≡ None = sym (ap (slice_get x.links.items) (same_less m)) ∙ s in
    absurd (true≢false (sym (passed (shares hash x) m e) ∙ ap (passes (λ k. bucket (length x.heads.items) k.hash == bucket (length x.heads.items) hash)) here))

-- the hash of a place is that of its link
pub same_hash : (x : HashIndex) (hash i : ℕ) (l : Link) → Some l ≡ slice_get x.links.items i → slice_get (hashes x) i ≡ Some hash → l.hash ≡ hash
same_hash x hash i l s h = some_is (ap (option_map (λ k. k.hash)) s ∙ sym (slice_get-map (λ k. k.hash) x.links.items i) ∙ h)
  where
    some_is : {m n : ℕ} → Some m ≡ Some n → m ≡ n
    some_is e = cc

older_is : (x : HashIndex) (hash i : ℕ) (l : Link) → IsLinked x → Some l ≡ slice_get x.links.items i → slice_get (hashes x) i ≡ Some hash → l.next ≡ last_where (shares hash x) i
older_is x hash i l linked s h = linked.nexts i l (sym s) ∙ ap (λ n. last_where (shares n x) i) (same_hash x hash i l s h)

pub older_kept : (x : HashIndex) (hash i : ℕ) (l : Link) → IsLinked x → Some l ≡ slice_get x.links.items i → slice_get (hashes x) i ≡ Some hash → l.next ≡ last_where (shares hash x) l.next
older_kept x hash i l linked s h =
    let is = older_is x hash i l linked s h in
    is ∙ again (shares hash x) i ∙ ap (last_where (shares hash x)) (sym is)

pub older_gives : (x : HashIndex) (hash i : ℕ) (l : Link) → IsLinked x → Some l ≡ slice_get x.links.items i → slice_get (hashes x) i ≡ Some hash → last_where (has_hash hash x) l.next ≡ last_where (has_hash hash x) i
older_gives x hash i l linked s h = ap (last_where (has_hash hash x)) (older_is x hash i l linked s h) ∙ from_bucket x hash i

pub not_there : (x : HashIndex) (hash i g : ℕ) → slice_get x.links.items i ≡ None → slice_get (hashes x) i ≡ Some hash → 0 ≡ g
not_there x hash i g s h = absurd (no (ap (option_map (λ k. k.hash)) (sym s) ∙ sym (slice_get-map (λ k. k.hash) x.links.items i) ∙ h))
  where
    no : {n : ℕ} → None ≢ Some n
    no e = cc

pub head_kept : (x : HashIndex) (hash h : ℕ) → h ≡ last_where (shares hash x) (length x.links.items) → h ≡ last_where (shares hash x) h
head_kept x hash h is = is ∙ again (shares hash x) (length x.links.items) ∙ ap (last_where (shares hash x)) (sym is)

pub head_gives : (x : HashIndex) (hash h : ℕ) → h ≡ last_where (shares hash x) (length x.links.items) → last_where (has_hash hash x) h ≡ last_where (has_hash hash x) (length (hashes x))
head_gives x hash h is = ap (last_where (has_hash hash x)) is ∙ from_bucket x hash (length x.links.items) ∙ ap (last_where (has_hash hash x)) (sym (as_long x))

pub none_yet : (x : HashIndex) (hash : ℕ) → IsLinked x → x.heads.items ≡ [] → 0 ≡ last_where (has_hash hash x) (length (hashes x))
none_yet x hash linked e = sym (ap (last_where (has_hash hash x)) (as_long x ∙ ap length (linked.some e)))
