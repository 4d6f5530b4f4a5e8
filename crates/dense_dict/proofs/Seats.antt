-- The seats of entries by their keys.
use Rattle.std.proofs.Common.{◌≡◌, ℕ, zero, suc, ◌<◌, ◌≤◌, Bool, true, false, cond, List, [], ◌∷◌, ◌++◌, length, map, set, get_or, Option, Some, None, slice_get, option_map, refl, ap, sym, subst, ◌∙◌, arith}
use Rattle.std.specs.Ordering.{is_eq}
use Rattle.std.specs.FinMap.{FinMap, find, get, insert, from_entries, get-from_entries, get-insert, same_map, from_entries_push}
use Rattle.ps_objects.specs.declared.key.Key.{Key}
use Rattle.ps_objects.specs.declared.object.Object.{Object}
use Rattle.ps_memory.specs.Order.{key_cmp}
use Rattle.ps_memory.proofs.Order.{keys_total, keys_antisymmetric, key_is, key_itself}
use Rattle.dense_dict.specs.declared.hash_index.HashIndex.{HashIndex}
use Rattle.dense_dict.specs.declared.entries.Seat.{Seat}
use Rattle.dense_dict.specs.Index.{hashes, IsLinked}
use Rattle.dense_dict.specs.Entries.{seat_hash, AreUnique, IsIndexed, with_object}
use Rattle.dense_dict.specs.Dict.{over_seat}
use Rattle.dense_dict.proofs.Search.{Entry, is_of}

none_some : {A : Type 0} (x : A) → None ≡ Some x → ⊥
none_some x e = cc

some_same : {A : Type 0} (x y : A) → Some x ≡ Some y → x ≡ y
some_same x y e = cc

there_none : (k : Key) (o : Option Entry) → option_map (λ (e : Entry). e.0) o ≡ Some k → option_map (λ (e : Entry). e.1) o ≡ None → ⊥
there_none k None a b = none_some k a
there_none k (Some e) a b = none_some e.1 (sym b)

nowhere : (k : Key) (i : ℕ) → option_map (λ (e : Entry). e.0) (slice_get [] i) ≡ Some k → ⊥
nowhere k zero h = none_some k h
nowhere k (suc i) h = none_some k h

-- where the key stands, its seat is found
pub hit : (es : List Entry) (i : ℕ) (k : Key) → AreUnique es → option_map (λ (e : Entry). e.0) (slice_get es i) ≡ Some k → option_map (λ (e : Entry). e.1) (slice_get es i) ≡ find key_cmp k es
hit [] i k unique h = absurd (nowhere k i h)
hit (e ∷ es) zero k unique h = sym (ap (λ b. cond b (Some e.1) (find key_cmp k es)) (ap (λ j. is_eq (key_cmp k j)) (some_same e.0 k h) ∙ key_itself k))
hit (e ∷ es) (suc i) k unique h = go (is_of k e) refl (hit es i k unique.1 h)
  where
    go : (b : Bool) → is_of k e ≡ b → option_map (λ (d : Entry). d.1) (slice_get es i) ≡ find key_cmp k es → option_map (λ (d : Entry). d.1) (slice_get es i) ≡ cond b (Some e.1) (find key_cmp k es)
    go true t rest = absurd (there_none k (slice_get es i) h (rest ∙ ap (λ j. find key_cmp j es) (key_is k e.0 t) ∙ unique.0))
    go false t rest = rest

pub seat_found : (es : List Entry) (i : ℕ) (k : Key) → AreUnique es → option_map (λ (e : Entry). e.0) (slice_get es i) ≡ Some k → option_map (λ (e : Entry). e.1) (slice_get es i) ≡ get (from_entries {R = key_cmp} es) k
seat_found es i k unique h = hit es i k unique h ∙ sym (get-from_entries keys_total es k)

pub seat_missing : (es : List Entry) (k : Key) → find key_cmp k es ≡ None → None ≡ get (from_entries {R = key_cmp} es) k
seat_missing es k h = sym (get-from_entries keys_total es k ∙ h)

-- ---- an object at a place

abbrev seated : Option Object → Seat → Seat
seated o s = record { number = s.number; object = o }

pub written : (es : List Entry) (i : ℕ) (e : Entry) (o : Option Object) → i < length es → e ≡ get_or es i e → set es i (e.0, record { number = e.1.number; object = o }) ≡ with_object i o es
written [] i e o h is = absurd (omega (arith, h))
written (x ∷ es) zero e o h is = ap (λ (d : Entry). (d.0, seated o d.1) ∷ es) is
written (x ∷ es) (suc i) e o h is = ap (λ ds. x ∷ ds) (written es i e o (omega (arith, h)) is)

pub not_written : (es : List Entry) (i : ℕ) (o : Option Object) → length es ≤ i → es ≡ with_object i o es
not_written [] i o h = refl
not_written (x ∷ es) zero o h = absurd (omega (arith, h))
not_written (x ∷ es) (suc i) o h = ap (λ ds. x ∷ ds) (not_written es i o (omega (arith, h)))

still_none : (k : Key) (es : List Entry) (i : ℕ) (o : Option Object) → find key_cmp k es ≡ None → find key_cmp k (with_object i o es) ≡ None
still_none k [] i o h = h
still_none k (e ∷ es) zero o h = go (is_of k e) h
  where
    go : (b : Bool) → cond b (Some e.1) (find key_cmp k es) ≡ None → cond b (Some (seated o e.1)) (find key_cmp k es) ≡ None
    go true n = absurd (none_some e.1 (sym n))
    go false n = n
still_none k (e ∷ es) (suc i) o h = go (is_of k e) h (still_none k es i o)
  where
    go : (b : Bool) → cond b (Some e.1) (find key_cmp k es) ≡ None → (find key_cmp k es ≡ None → find key_cmp k (with_object i o es) ≡ None) → cond b (Some e.1) (find key_cmp k (with_object i o es)) ≡ None
    go true n rest = absurd (none_some e.1 (sym n))
    go false n rest = rest n

still_unique : (es : List Entry) (i : ℕ) (o : Option Object) → AreUnique es → AreUnique (with_object i o es)
still_unique [] i o h = h
still_unique (e ∷ es) zero o h = h
still_unique (e ∷ es) (suc i) o h = (still_none e.0 es i o h.0, still_unique es i o h.1)

same_hashes : (es : List Entry) (i : ℕ) (o : Option Object) → map (λ (e : Entry). seat_hash e.0) (with_object i o es) ≡ map (λ (e : Entry). seat_hash e.0) es
same_hashes [] i o = refl
same_hashes (e ∷ es) zero o = refl
same_hashes (e ∷ es) (suc i) o = ap (λ ns. seat_hash e.0 ∷ ns) (same_hashes es i o)

pub still_indexed : (x : HashIndex) (es fs : List Entry) (i : ℕ) (o : Option Object) → IsIndexed x es → fs ≡ with_object i o es → IsIndexed x fs
still_indexed x es fs i o h e = subst (IsIndexed x) (sym e) (record {
  linked = h.linked;
  hashed = h.hashed ∙ sym (same_hashes es i o);
  unique = still_unique es i o h.unique;
})

found_over : (q : Key) (es : List Entry) (i : ℕ) (e : Entry) (o : Option Object) → AreUnique es → slice_get es i ≡ Some e → find key_cmp q (with_object i o es) ≡ cond (is_of q e) (Some (seated o e.1)) (find key_cmp q es)
found_over q [] zero e o unique s = absurd (none_some e s)
found_over q [] (suc i) e o unique s = absurd (none_some e s)
found_over q (d ∷ es) zero e o unique s = subst (λ (c : Entry). cond (is_of q d) (Some (seated o d.1)) (find key_cmp q es) ≡ cond (is_of q c) (Some (seated o c.1)) (cond (is_of q d) (Some d.1) (find key_cmp q es))) (some_same d e s) (go (is_of q d))
  where
    go : (b : Bool) → cond b (Some (seated o d.1)) (find key_cmp q es) ≡ cond b (Some (seated o d.1)) (cond b (Some d.1) (find key_cmp q es))
    go true = refl
    go false = refl
found_over q (d ∷ es) (suc i) e o unique s = go (is_of q d) (is_of q e) refl refl (found_over q es i e o unique.1 s)
  where
    stands : find key_cmp e.0 es ≡ None → ⊥
    stands n = none_some e.1 (sym (sym (ap (option_map (λ (c : Entry). c.1)) s) ∙ hit es i e.0 unique.1 (ap (option_map (λ (c : Entry). c.0)) s) ∙ n))

    go : (a b : Bool) → is_of q d ≡ a → is_of q e ≡ b → find key_cmp q (with_object i o es) ≡ cond b (Some (seated o e.1)) (find key_cmp q es)
        → cond a (Some d.1) (find key_cmp q (with_object i o es)) ≡ cond b (Some (seated o e.1)) (cond a (Some d.1) (find key_cmp q es))
    go true true x y rest = absurd (stands (ap (λ j. find key_cmp j es) (sym (key_is q e.0 y) ∙ key_is q d.0 x) ∙ unique.0))
    go true false x y rest = refl
    go false b x y rest = rest

over : (es : List Entry) (i : ℕ) (e : Entry) (o : Option Object) → AreUnique es → slice_get es i ≡ Some e → from_entries {R = key_cmp} (with_object i o es) ≡ insert (from_entries es) e.0 (seated o e.1)
over es i e o unique s = same_map keys_total keys_antisymmetric _ _ (λ q.
    get-from_entries keys_total (with_object i o es) q ∙ found_over q es i e o unique s
    ∙ sym (get-insert keys_total (from_entries es) e.0 (seated o e.1) q ∙ ap (cond (is_of q e) (Some (seated o e.1))) (get-from_entries keys_total es q)))

abbrev put_over : FinMap key_cmp Seat → Key → Option Object → Option Seat → FinMap key_cmp Seat
put_over m k o s = elim s as (λ _. FinMap key_cmp Seat) [ None ↦ m | Some x ↦ insert m k (seated o x) ]

pub replaced : (es fs : List Entry) (i : ℕ) (k : Key) (o : Option Object) → AreUnique es → option_map (λ (e : Entry). e.0) (slice_get es i) ≡ Some k → fs ≡ with_object i o es → from_entries {R = key_cmp} fs ≡ over_seat k o (from_entries es)
replaced es fs i k o unique at is = ap (from_entries {R = key_cmp}) is ∙ go (slice_get es i) refl at
  where
    go : (p : Option Entry) → slice_get es i ≡ p → option_map (λ (e : Entry). e.0) p ≡ Some k → from_entries {R = key_cmp} (with_object i o es) ≡ over_seat k o (from_entries es)
    go None s n = absurd (none_some k n)
    go (Some e) s n = over es i e o unique s ∙ ap (λ j. insert (from_entries es) j (seated o e.1)) (some_same e.0 k n)
        ∙ sym (ap (put_over (from_entries es) k o) (sym (seat_found es i k unique at) ∙ ap (option_map (λ (c : Entry). c.1)) s))

pub not_replaced : (es : List Entry) (k : Key) (o : Option Object) → find key_cmp k es ≡ None → from_entries {R = key_cmp} es ≡ over_seat k o (from_entries es)
not_replaced es k o n = sym (ap (put_over (from_entries es) k o) (sym (seat_missing es k n)))

-- ---- an entry more

pushed_none : (j k : Key) (s : Seat) (es : List Entry) → find key_cmp j es ≡ None → is_eq (key_cmp j k) ≡ false → find key_cmp j (es ++ (k, s) ∷ []) ≡ None
pushed_none j k s [] h n = ap (λ b. cond b (Some s) None) n
pushed_none j k s (e ∷ es) h n = go (is_of j e) h (pushed_none j k s es)
  where
    go : (b : Bool) → cond b (Some e.1) (find key_cmp j es) ≡ None → (find key_cmp j es ≡ None → is_eq (key_cmp j k) ≡ false → find key_cmp j (es ++ (k, s) ∷ []) ≡ None) → cond b (Some e.1) (find key_cmp j (es ++ (k, s) ∷ [])) ≡ None
    go true m rest = absurd (none_some e.1 (sym m))
    go false m rest = rest m n

pub unique_pushed : (k : Key) (s : Seat) (es : List Entry) → AreUnique es → find key_cmp k es ≡ None → AreUnique (es ++ (k, s) ∷ [])
unique_pushed k s [] unique h = (refl, tt)
unique_pushed k s (e ∷ es) unique h = (pushed_none e.0 k s es unique.0 (differ (is_eq (key_cmp e.0 k)) refl), unique_pushed k s es unique.1 (rest (is_of k e) h))
  where
    differ : (b : Bool) → is_eq (key_cmp e.0 k) ≡ b → b ≡ false
    differ true t = absurd (none_some e.1 (sym (sym (ap (λ b. cond b (Some e.1) (find key_cmp k es)) (ap (λ j. is_eq (key_cmp k j)) (key_is e.0 k t) ∙ key_itself k)) ∙ h)))
    differ false t = refl

    rest : (b : Bool) → cond b (Some e.1) (find key_cmp k es) ≡ None → find key_cmp k es ≡ None
    rest true n = absurd (none_some e.1 (sym n))
    rest false n = n

hashed_pushed : (k : Key) (s : Seat) (es : List Entry) → map (λ (e : Entry). seat_hash e.0) es ++ seat_hash k ∷ [] ≡ map (λ (e : Entry). seat_hash e.0) (es ++ (k, s) ∷ [])
hashed_pushed k s [] = refl
hashed_pushed k s (e ∷ es) = ap (λ ns. seat_hash e.0 ∷ ns) (hashed_pushed k s es)

pub indexed_pushed : (x y : HashIndex) (es fs : List Entry) (k : Key) (s : Seat) (h : ℕ) → IsIndexed x es → find key_cmp k es ≡ None → h ≡ seat_hash k → IsLinked y → hashes y ≡ hashes x ++ h ∷ [] → fs ≡ es ++ (k, s) ∷ [] → IsIndexed y fs
indexed_pushed x y es fs k s h indexed anew is linked e f = subst (IsIndexed y) (sym f) (record {
  linked = linked;
  hashed = e ∙ (λ i. indexed.hashed i ++ is i ∷ []) ∙ hashed_pushed k s es;
  unique = unique_pushed k s es indexed.unique anew;
})

pub anew : (es : List Entry) (m : FinMap key_cmp Seat) (k : Key) → from_entries {R = key_cmp} es ≡ m → get m k ≡ None → find key_cmp k es ≡ None
anew es m k v n = sym (get-from_entries keys_total es k) ∙ ap (λ x. get x k) v ∙ n

pub inserted : (es fs : List Entry) (k : Key) (s : Seat) → find key_cmp k es ≡ None → fs ≡ es ++ (k, s) ∷ [] → from_entries {R = key_cmp} fs ≡ insert (from_entries es) k s
inserted es fs k s n e = ap (from_entries {R = key_cmp}) e ∙ from_entries_push keys_total keys_antisymmetric es k s n
