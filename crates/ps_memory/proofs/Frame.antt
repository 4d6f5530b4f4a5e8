-- The frame law, by one induction over the tree.
use Rattle.std.proofs.Common.{◌≡◌, ◌≢◌, ℕ, Bool, true, false, cond, ◌||◌, not, List, [], ◌∷◌, Option, Some, None, refl, sym, ap, ◌∙◌, subst, true≢false, eqb-true}
use Rattle.std.specs.Bool.{⊤}
use Rattle.std.specs.List.{AllByRecursion}
use Rattle.std.specs.FinMap.{get, insert}
use Rattle.std.specs.Cmp.{first_so, second_so}
use Rattle.ps_objects.specs.declared.cell.Cell.{Cell}
use Rattle.ps_objects.specs.declared.cell.SaveName.{SaveName}
use Rattle.ps_objects.specs.declared.key.Key.{Key}
use Rattle.ps_objects.specs.declared.place.Loc.{Loc}
use Rattle.ps_objects.specs.declared.place.Value.{Value}
use Rattle.ps_objects.specs.declared.place.Value.TheVariants as value
use Rattle.ps_objects.specs.declared.place.Shape.{Shape}
use Rattle.ps_memory.specs.Memory.{is_global, newer, same_save, Content, CellMap, Memory, Slot, entry, access, item, whole, Spot, held, byte, rand, paper, spot_of, Found, is, in_content, in_string, part, at, value_found, keys_of, seen_at, value_at, shape_in, shape_at, standing_shape, shape_of, Action, store, fresh, save, restore, tell, put_content, put_cell, do_store, content_of, do_fresh, copy_named, older_than, do_restore, perform}
use Rattle.ps_memory.specs.Tree.{Tree, ends, looks, acts, asks, Step, looked_at, did, result, trail, after, play}
use Rattle.ps_memory.specs.Ownership.{same_cell, same_spot, in_cell, is_kept, Owned, nothing_owned, owned_at, saves_before, has_save, own, owns, outer_from, same_loc, is_among, looked_from, outlives}
use Rattle.ps_memory.specs.Frame.{Allowed, Safe, Kin, FrameLaw}
use Rattle.ps_memory.proofs.Places.{spot_is, store_other, fresh_here, fresh_other, restored}
use Rattle.ps_memory.proofs.Stored.{stored, no_shape}
use Rattle.ps_memory.proofs.Keys.{is_there, is_dict_shape, dict_by_shape, keys_told, entries_told, dict_told}

-- an owned place agrees between the two runs, and any other has in each what it had at the start
abbrev pub AgreeAt : Bool → Found → Found → Found → Found → Type 0
AgreeAt true a b a₀ b₀ = a ≡ b
AgreeAt false a b a₀ b₀ = (a ≡ a₀) × (b ≡ b₀)

abbrev pub in_copy : CellMap → Spot → Found
in_copy m (held c t) = in_content (get m c) t
in_copy m _ = is value.Absent

pub save_is : (a b : SaveName) → same_save a b ≡ true → a ≡ b
save_is a b e =
    let p = eqb-true _ _ (first_so _ _ e) in
    let q = eqb-true _ _ (second_so _ _ e) in
    λ i. record { section = p i; count = q i }

pub kept_store : (p : Spot) (v : Value) (M : Memory) → (do_store p v M).kept ≡ M.kept
kept_store (held c s) v M = go (is_global c)
  where
    f : CellMap → CellMap
    f = put_cell c (put_content s v)

    go : (x : Bool) → (cond x (record M { globals = f M.globals }) (record M { locals = f M.locals })).kept ≡ M.kept
    go true = refl
    go false = refl
kept_store (byte c i) v M = refl
kept_store rand v M = refl
kept_store paper v M = refl

pub kept_fresh : (c : Cell) (sh : Shape) (M : Memory) → (do_fresh c sh M).kept ≡ M.kept
kept_fresh c sh M = go (is_global c)
  where
    f : CellMap → CellMap
    f = λ m. insert m c (content_of sh)

    go : (x : Bool) → (cond x (record M { globals = f M.globals }) (record M { locals = f M.locals })).kept ≡ M.kept
    go true = refl
    go false = refl

module _ (M₀ N₀ : Memory) where
  abbrev pub Whole : (Spot → Bool) → Type 0
  Whole o = (c : Cell) (t : Slot) → o (held c whole) ≡ true → o (held c t) ≡ true

  -- the bytes of strings newer than a save, where they aren't owned, were absent at the start
  abbrev pub NoNewer : (Spot → Bool) → SaveName → Type 0
  NoNewer now s = (c : Cell) (i : ℕ) → newer c s ≡ true → now (byte c i) ≡ false → (at M₀ (byte c i) ≡ is value.Absent) × (at N₀ (byte c i) ≡ is value.Absent)

  abbrev pub AgreeCopies : (Spot → Bool) → CellMap → CellMap → Type 0
  AgreeCopies o C D = (q : Spot) → is_kept q ≡ true → AgreeAt (o q) (in_copy C q) (in_copy D q) (at M₀ q) (at N₀ q)

  -- the copies of the trail's own saves
  abbrev pub AgreeKept : List (SaveName × (Spot → Bool)) → List (SaveName × CellMap) → List (SaveName × CellMap) → Type 0
  AgreeKept [] ks ls = ⊤
  AgreeKept (o ∷ saves) (k ∷ ks) (l ∷ ls) = (k.0 ≡ o.0) × (l.0 ≡ o.0) × Whole o.1 × NoNewer o.1 o.0 × AgreeCopies o.1 k.1 l.1 × AgreeKept saves ks ls
  AgreeKept (o ∷ saves) _ _ = ⊥

  pub record Together (o : Owned) (M N : Memory) : Type 0 where
    pub places : (q : Spot) → AgreeAt (o.now q) (at M q) (at N q) (at M₀ q) (at N₀ q)
    pub whole : Whole o.now
    pub kept : AgreeKept o.saves M.kept N.kept

  -- ---- a look

  same_keys_at : (o : Owned) (M N : Memory) (c : Cell) → Together o M N → (o.now (held c whole) ≡ false → seen_at M₀ (held c whole) ≡ seen_at N₀ (held c whole)) → seen_at M (held c whole) ≡ seen_at N (held c whole)
  same_keys_at o M N c t h = go (o.now (held c whole)) refl
    where
      X : Option Content
      X = get (part M c) c

      Y : Option Content
      Y = get (part N c) c

      X₀ : Option Content
      X₀ = get (part M₀ c) c

      Y₀ : Option Content
      Y₀ = get (part N₀ c) c

      at_place : (q : Slot) (b : Bool) → o.now (held c q) ≡ b → AgreeAt b (in_content X q) (in_content Y q) (in_content X₀ q) (in_content Y₀ q)
      at_place q b e = subst (λ b. AgreeAt b (in_content X q) (in_content Y q) (in_content X₀ q) (in_content Y₀ q)) e (t.places (held c q))

      there : (keys_of X₀ ≡ keys_of Y₀) → (k : Key) (b : Bool) → o.now (held c (entry k)) ≡ b → is_there (in_content X (entry k)) ≡ is_there (in_content Y (entry k))
      there same k true e = ap is_there (at_place (entry k) true e)
      there same k false e = let p = at_place (entry k) false e in ap is_there p.0 ∙ entries_told X₀ Y₀ same k ∙ sym (ap is_there p.1)

      go : (b : Bool) → o.now (held c whole) ≡ b → keys_of X ≡ keys_of Y
      go true e = keys_told X Y (sym (dict_by_shape X) ∙ ap is_dict_shape (at_place whole true e) ∙ dict_by_shape Y) (λ k. ap is_there (at_place (entry k) true (t.whole c (entry k) e)))
      go false e =
          let p = at_place whole false e in
          let same = h e in
          keys_told X Y
          (sym (dict_by_shape X) ∙ ap is_dict_shape p.0 ∙ dict_by_shape X₀ ∙ dict_told X₀ Y₀ same ∙ sym (dict_by_shape Y₀) ∙ sym (ap is_dict_shape p.1) ∙ dict_by_shape Y)
          (λ k. there same k (o.now (held c (entry k))) refl)

  -- what is told of a place is told by what stands there, the keys of a dictionary aside
  same_told_at : (o : Owned) (M N : Memory) (p : Spot) → Together o M N → (o.now p ≡ false → value_found (at M₀ p) ≡ value_found (at N₀ p)) → value_found (at M p) ≡ value_found (at N p)
  same_told_at o M N p t h = go (o.now p) refl (t.places p)
    where
      go : (b : Bool) → o.now p ≡ b → AgreeAt b (at M p) (at N p) (at M₀ p) (at N₀ p) → value_found (at M p) ≡ value_found (at N p)
      go true e a = ap value_found a
      go false e a = ap value_found a.0 ∙ h e ∙ sym (ap value_found a.1)

  same_seen : (o : Owned) (M N : Memory) (p : Spot) → Together o M N → (o.now p ≡ false → seen_at M₀ p ≡ seen_at N₀ p) → seen_at M p ≡ seen_at N p
  same_seen o M N (held c (entry k)) t h = same_told_at o M N (held c (entry k)) t h
  same_seen o M N (held c access) t h = same_told_at o M N (held c access) t h
  same_seen o M N (held c (item i)) t h = same_told_at o M N (held c (item i)) t h
  same_seen o M N (held c whole) t h = same_keys_at o M N c t h
  same_seen o M N (byte c i) t h = same_told_at o M N (byte c i) t h
  same_seen o M N rand t h = same_told_at o M N rand t h
  same_seen o M N paper t h = same_told_at o M N paper t h

  -- ---- acts

  moved : (b : Bool) {x x' y y' : Found} (a₀ b₀ : Found) → x' ≡ x → y' ≡ y → AgreeAt b x y a₀ b₀ → AgreeAt b x' y' a₀ b₀
  moved true a₀ b₀ p q a = p ∙ a ∙ sym q
  moved false a₀ b₀ p q a = (p ∙ a.0, q ∙ a.1)

  or_true : (a b : Bool) → b ≡ true → (a || b) ≡ true
  or_true true b e = refl
  or_true false b e = e

  or_false : (a b : Bool) → (a || b) ≡ false → b ≡ false
  or_false true b e = absurd (true≢false e)
  or_false false b e = e

  together_store : (o : Owned) (M N : Memory) (l : Loc) (v : Value) → Together o M N → Allowed (store l v) M → Allowed (store l v) N → Together (own (store l v) o) (do_store (spot_of l) v M) (do_store (spot_of l) v N)
  together_store o M N l v t a b = record {
    places = λ q. at_place q (same_spot p q) refl;
    whole = λ c s e. or_true (same_spot p (held c s)) _ (t.whole c s (rw (no_shape p M c a.0) at e));
    kept = rw (kept_store p v M, kept_store p v N) t.kept;
  }
    where
      p : Spot
      p = spot_of l

      at_place : (q : Spot) (x : Bool) → same_spot p q ≡ x → AgreeAt (x || o.now q) (at (do_store p v M) q) (at (do_store p v N) q) (at M₀ q) (at N₀ q)
      at_place q true e = subst (λ q. at (do_store p v M) q ≡ at (do_store p v N) q) (spot_is p q e) (stored p v M a.0 a.1 ∙ sym (stored p v N b.0 b.1))
      at_place q false e = moved (o.now q) _ _ (store_other p q v M e) (store_other p q v N e) (t.places q)

  together_fresh : (o : Owned) (M N : Memory) (c : Cell) (sh : Shape) → Together o M N → Together (own (fresh c sh) o) (do_fresh c sh M) (do_fresh c sh N)
  together_fresh o M N c sh t = record {
    places = λ q. at_place q (in_cell c q) refl;
    whole = λ d s e. all_of d s (same_cell d c) e;
    kept = rw (kept_fresh c sh M, kept_fresh c sh N) t.kept;
  }
    where
      at_place : (q : Spot) (x : Bool) → in_cell c q ≡ x → AgreeAt (x || o.now q) (at (do_fresh c sh M) q) (at (do_fresh c sh N) q) (at M₀ q) (at N₀ q)
      at_place q true e = fresh_here c sh q M N e
      at_place q false e = moved (o.now q) _ _ (fresh_other c sh q M e) (fresh_other c sh q N e) (t.places q)

      all_of : (d : Cell) (s : Slot) (x : Bool) → (x || o.now (held d whole)) ≡ true → (x || o.now (held d s)) ≡ true
      all_of d s true e = refl
      all_of d s false e = t.whole d s e

  at_kept : (M : Memory) (ks : List (SaveName × CellMap)) (q : Spot) → at (record M { kept = ks }) q ≡ at M q
  at_kept M ks (held c s) = refl
  at_kept M ks (byte c i) = refl
  at_kept M ks rand = refl
  at_kept M ks paper = refl

  copied : (M : Memory) (q : Spot) → is_kept q ≡ true → in_copy M.locals q ≡ at M q
  copied M (held c s) e = go (is_global c) e
    where
      go : (x : Bool) → not x ≡ true → in_content (get M.locals c) s ≡ in_content (get (cond x M.globals M.locals) c) s
      go true e = absurd (true≢false (sym e))
      go false e = refl
  copied M (byte c i) e = absurd (true≢false (sym e))
  copied M rand e = absurd (true≢false (sym e))
  copied M paper e = absurd (true≢false (sym e))

  together_save : (o : Owned) (M N : Memory) (s : SaveName) → Together o M N → Allowed (save s) M → Allowed (save s) N → Together (own (save s) o) (perform (save s) M) (perform (save s) N)
  together_save o M N s t a b = record {
    places = λ q. moved (o.now q) _ _ (at_kept M ((s, M.locals) ∷ M.kept) q) (at_kept N ((s, N.locals) ∷ N.kept) q) (t.places q);
    whole = t.whole;
    kept = (refl, refl, t.whole, λ c i n e. absent_at c i n (o.now (byte c i)) e (t.places (byte c i)), λ q e. moved (o.now q) _ _ (copied M q e) (copied N q e) (t.places q), t.kept);
  }
    where
      absent_at : (c : Cell) (i : ℕ) → newer c s ≡ true → (x : Bool) → x ≡ false → AgreeAt x (at M (byte c i)) (at N (byte c i)) (at M₀ (byte c i)) (at N₀ (byte c i)) → (at M₀ (byte c i) ≡ is value.Absent) × (at N₀ (byte c i) ≡ is value.Absent)
      absent_at c i n true e g = absurd (true≢false e)
      absent_at c i n false e g = (sym g.0 ∙ ap (λ o. in_string o i) (a.0 c n).1, sym g.1 ∙ ap (λ o. in_string o i) (b.0 c n).1)

  -- what the two memories keep under a name that the trail opened
  record Copies (s : SaveName) (saves : List (SaveName × (Spot → Bool))) (ks ls : List (SaveName × CellMap)) : Type 0 where
    copy : CellMap
    other : CellMap
    is_copy : copy_named s ks ≡ Some copy
    is_other : copy_named s ls ≡ Some other
    whole : Whole (owned_at s saves)
    no_newer : NoNewer (owned_at s saves) s
    agree : AgreeCopies (owned_at s saves) copy other
    rest : AgreeKept (saves_before s saves) (older_than s ks) (older_than s ls)

  found : (s : SaveName) (saves : List (SaveName × (Spot → Bool))) (ks ls : List (SaveName × CellMap)) → has_save s saves ≡ true → AgreeKept saves ks ls → Copies s saves ks ls
  found s [] ks ls h a = absurd (true≢false (sym h))
  found s (o ∷ saves) [] ls h a = absurd a
  found s (o ∷ saves) (k ∷ ks) [] h a = absurd a
  found s (o ∷ saves) (k ∷ ks) (l ∷ ls) h a = go (same_save s o.0) refl h (λ g. found s saves ks ls g a.5)
    where
      go : (x : Bool) → same_save s o.0 ≡ x → cond x true (has_save s saves) ≡ true → (has_save s saves ≡ true → Copies s saves ks ls) → Copies s (o ∷ saves) (k ∷ ks) (l ∷ ls)
      go true e h ih =
          let ek = ap (same_save s) a.0 ∙ e in
          let el = ap (same_save s) a.1 ∙ e in
          record {
            copy = k.1;
            other = l.1;
            is_copy = ap (λ x. cond x (Some k.1) (copy_named s ks)) ek;
            is_other = ap (λ x. cond x (Some l.1) (copy_named s ls)) el;
            whole = λ c t g. rw e (a.2 c t (rw e at g));
            no_newer = λ c i n g. a.3 c i (ap (newer c) (sym (save_is s o.0 e)) ∙ n) (rw e at g);
            agree = λ q g. rw e (a.4 q g);
            rest = rw (e, ek, el) a.5;
          }
      go false e h ih =
          let ek = ap (same_save s) a.0 ∙ e in
          let el = ap (same_save s) a.1 ∙ e in
          let f = ih h in
          record {
            copy = f.copy;
            other = f.other;
            is_copy = ap (λ x. cond x (Some k.1) (copy_named s ks)) ek ∙ f.is_copy;
            is_other = ap (λ x. cond x (Some l.1) (copy_named s ls)) el ∙ f.is_other;
            whole = λ c t g. rw e (f.whole c t (rw e at g));
            no_newer = λ c i n g. f.no_newer c i n (rw e at g);
            agree = λ q g. rw e (f.agree q g);
            rest = rw (e, ek, el) f.rest;
          }

  together_restore : (o : Owned) (M N : Memory) (s : SaveName) → has_save s o.saves ≡ true → Together o M N → Together (own (restore s) o) (perform (restore s) M) (perform (restore s) N)
  together_restore o M N s h t = rw (f.is_copy, f.is_other) (record {
    places = at_place;
    whole = λ c q e. whole_at c q (is_global c) e;
    kept = f.rest;
  })
    where
      f : Copies s o.saves M.kept N.kept
      f = found s o.saves M.kept N.kept h t.kept

      whole_at : (c : Cell) (q : Slot) (x : Bool) → cond x (o.now (held c whole)) (owned_at s o.saves (held c whole)) ≡ true → cond x (o.now (held c q)) (owned_at s o.saves (held c q)) ≡ true
      whole_at c q true e = t.whole c q e
      whole_at c q false e = f.whole c q e

      held_at : (c : Cell) (q : Slot) (x : Bool) → (is_global c) ≡ x → AgreeAt (cond x (o.now (held c q)) (owned_at s o.saves (held c q)))
          (cond x (at M (held c q)) (in_content (get f.copy c) q)) (cond x (at N (held c q)) (in_content (get f.other c) q)) (at M₀ (held c q)) (at N₀ (held c q))
      held_at c q true e = t.places (held c q)
      held_at c q false e = f.agree (held c q) (ap not e)

      gone : (c : Cell) (i : ℕ) (x : Bool) → newer c s ≡ true → owned_at s o.saves (byte c i) ≡ x → AgreeAt x (is value.Absent) (is value.Absent) (at M₀ (byte c i)) (at N₀ (byte c i))
      gone c i true n e = refl
      gone c i false n e = let g = f.no_newer c i n e in (sym g.0, sym g.1)

      byte_at : (c : Cell) (i : ℕ) (x : Bool) → newer c s ≡ x → AgreeAt (cond (not x) (o.now (byte c i)) (owned_at s o.saves (byte c i))) (cond x (is value.Absent) (at M (byte c i))) (cond x (is value.Absent) (at N (byte c i))) (at M₀ (byte c i)) (at N₀ (byte c i))
      byte_at c i true n = gone c i (owned_at s o.saves (byte c i)) n refl
      byte_at c i false n = t.places (byte c i)

      at_place : (q : Spot) → AgreeAt (cond (outlives s q) (o.now q) (owned_at s o.saves q)) (at (do_restore s (Some f.copy) M) q) (at (do_restore s (Some f.other) N) q) (at M₀ q) (at N₀ q)
      at_place (held c q) = moved _ _ _ (restored s f.copy M (held c q)) (restored s f.other N (held c q)) (held_at c q (is_global c) refl)
      at_place (byte c i) = moved _ _ _ (restored s f.copy M (byte c i)) (restored s f.other N (byte c i)) (byte_at c i (newer c s) refl)
      at_place rand = moved _ _ _ (restored s f.copy M rand) (restored s f.other N rand) (t.places rand)
      at_place paper = moved _ _ _ (restored s f.copy M paper) (restored s f.other N paper) (t.places paper)

  together_act : (o : Owned) (M N : Memory) (w : Action) → Together o M N → Allowed w M → Allowed w N → (outer_from o (did w ∷ []) ≡ None) → Together (own w o) (perform w M) (perform w N)
  together_act o M N (store l v) t a b h = together_store o M N l v t a b
  together_act o M N (fresh c sh) t a b h = together_fresh o M N c sh t
  together_act o M N (save s) t a b h = together_save o M N s t a b
  together_act o M N (restore s) t a b h = go (has_save s o.saves) refl h
    where
      go : (x : Bool) → has_save s o.saves ≡ x → cond x None (Some s) ≡ None → Together (own (restore s) o) (perform (restore s) M) (perform (restore s) N)
      go true e h = together_restore o M N s e t
      go false e h = cc
  together_act o M N (tell x) t a b h = t

  no_outer_head : (o : Owned) (w : Action) (trail : List Step) → outer_from o (did w ∷ trail) ≡ None → (outer_from o (did w ∷ []) ≡ None) × (outer_from (own w o) trail ≡ None)
  no_outer_head o (store l v) trail h = (refl, h)
  no_outer_head o (tell x) trail h = (refl, h)
  no_outer_head o (fresh c sh) trail h = (refl, h)
  no_outer_head o (save s) trail h = (refl, h)
  no_outer_head o (restore s) trail h = go (has_save s o.saves) h
    where
      go : (x : Bool) → cond x (outer_from (own (restore s) o) trail) (Some s) ≡ None → (cond x None (Some s) ≡ None) × (outer_from (own (restore s) o) trail ≡ None)
      go true h = (refl, h)
      go false h = (h, cc)

  -- ---- runs

  abbrev pub EachLook : Owned → List Step → Type 0
  EachLook o [] = ⊤
  EachLook o (looked_at l ∷ trail) = (owns o l ≡ false → value_at M₀ l ≡ value_at N₀ l) × EachLook o trail
  EachLook o (did w ∷ trail) = EachLook (own w o) trail

  abbrev pub Alike : {A : Type 0} → Tree A → Memory → Memory → Type 0
  Alike t M N = (result t N ≡ result t M) × (trail t N ≡ trail t M)

  same_shape : (o : Owned) (M N : Memory) (c : Cell) → Together o M N → Kin M₀ N₀ → (shape_at M c ≢ None) → (shape_at N c ≢ None) → shape_at M c ≡ shape_at N c
  same_shape o M N c t k a b = go (o.now (held c whole)) (t.places (held c whole))
    where
      go : (x : Bool) → AgreeAt x (at M (held c whole)) (at N (held c whole)) (at M₀ (held c whole)) (at N₀ (held c whole)) → shape_at M c ≡ shape_at N c
      go true g = ap shape_in g
      go false g = let p = ap shape_in g.0 in let q = ap shape_in g.1 in p ∙ k c (λ e. a (p ∙ e)) (λ e. b (q ∙ e)) ∙ sym q

  pub run : {A : Type 0} (t : Tree A) (o : Owned) (M N : Memory) → Together o M N → Safe t M → Safe t N → Kin M₀ N₀ → outer_from o (trail t M) ≡ None → EachLook o (trail t M) → Alike t M N
  run (ends a) o M N t s r k out each = (refl, refl)
  run (looks l f) o M N t s r k out each =
      let same = same_seen o M N (spot_of l) t each.0 in
      let (a, b) = run (f (value_at M l)) o M N t s (subst (λ v. Safe (f v) N) (sym same) r) k out each.1 in
      (subst (λ v. result (f v) N ≡ result (f (value_at M l)) M) same a, subst (λ v. looked_at l ∷ trail (f v) N ≡ looked_at l ∷ trail (f (value_at M l)) M) same (ap (λ tr. looked_at l ∷ tr) b))
  run (acts w u) o M N t s r k out each =
      let split = no_outer_head o w (trail u (perform w M)) out in
      let (a, b) = run u (own w o) (perform w M) (perform w N) (together_act o M N w t s.0 r.0 split.0) s.1 r.1 k split.1 each in
      (a, ap (λ tr. did w ∷ tr) b)
  run (asks c f) o M N t s r k out each =
      let same = ap standing_shape (same_shape o M N c t k s.0 r.0) in
      let (a, b) = run (f (shape_of M c)) o M N t s.1 (subst (λ v. Safe (f v) N) (sym same) r.1) k out each in
      (subst (λ v. result (f v) N ≡ result (f (shape_of M c)) M) same a, subst (λ v. trail (f v) N ≡ trail (f (shape_of M c)) M) same b)

  start : Together nothing_owned M₀ N₀
  start = record { places = λ q. (refl, refl); whole = λ c t e. absurd (true≢false (sym e)); kept = tt }

  abbrev Same : Loc → Type 0
  Same l = value_at M₀ l ≡ value_at N₀ l

  -- the list of looked-at locations covers each look
  each_of : (trail : List Step) (o : Owned) (seen : List Loc) → ((l : Loc) → is_among l seen ≡ true → Same l) → AllByRecursion Same (looked_from o seen trail) → EachLook o trail
  each_of [] o seen known all = tt
  each_of (did w ∷ trail) o seen known all = each_of trail (own w o) seen known all
  each_of (looked_at l ∷ trail) o seen known all = go (owns o l) refl (is_among l seen) refl all (λ seen known all. each_of trail o seen known all)
    where
      go : (x : Bool) → owns o l ≡ x → (y : Bool) → is_among l seen ≡ y → AllByRecursion Same (cond (x || y) (looked_from o seen trail) (l ∷ looked_from o (l ∷ seen) trail))
          → ((seen : List Loc) → ((l : Loc) → is_among l seen ≡ true → Same l) → AllByRecursion Same (looked_from o seen trail) → EachLook o trail) → (owns o l ≡ false → Same l) × EachLook o trail
      go true e y g all ih = (λ no. absurd (true≢false (sym e ∙ no)), ih seen known all)
      go false e true g all ih = (λ no. known l g, ih seen known all)
      go false e false g all ih = (λ no. all.0, ih (l ∷ seen) (λ k h. more k (same_loc k l) refl h) all.1)
        where
          more : (k : Loc) (x : Bool) → same_loc k l ≡ x → (x || is_among k seen) ≡ true → Same k
          more k true h i = subst (λ p. seen_at M₀ p ≡ seen_at N₀ p) (sym (spot_is (spot_of k) (spot_of l) h)) all.0
          more k false h i = known k i

-- a run's memory is its trail's acts done on the memory from which it began
pub played : {A : Type 0} (t : Tree A) (M : Memory) → after t M ≡ play (trail t M) M
played (ends a) M = refl
played (looks l f) M = played (f (value_at M l)) M
played (acts w t) M = played t (perform w M)
played (asks c f) M = played (f (shape_of M c)) M

pub frame_law : (A : Type 0) → FrameLaw A
frame_law A t M N s r k out all =
    let (a, b) = run M N t nothing_owned M N (start M N) s r k out (each_of M N (trail t M) nothing_owned [] (λ l e. absurd (true≢false (sym e))) all) in
    record {
      same_result = a;
      same_trail = b;
      memory = played t M;
      other_memory = played t N ∙ ap (λ tr. play tr N) b;
    }
