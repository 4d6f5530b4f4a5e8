-- The walk of `bind`: what comes of a step, and that what it goes to stands.
use Rattle.std.proofs.Common.{◌≡◌, ℕ, zero, suc, ◌+◌, ◌-◌, ◌<◌, Bool, true, false, cond, ◌&&◌, nat_lt, List, [], ◌∷◌, Option, Some, None, Result, Ok, Err, refl, sym, ap, ◌∙◌, subst, arith}
use Rattle.std.specs.Cmp.{first_so, second_so}
use Rattle.ps_names.specs.declared.error_name.ErrorName.{ErrorName}
use Rattle.ps_names.specs.declared.error_name.ErrorName.TheVariants.{Undefined}
use Rattle.ps_objects.specs.declared.access.Access.{Access}
use Rattle.ps_objects.specs.declared.access.Access.TheVariants.{Unlimited, ReadOnly, ExecuteOnly, NoAccess}
use Rattle.ps_objects.specs.declared.cell.Cell.{Cell}
use Rattle.ps_objects.specs.declared.key.Key.{Key}
use Rattle.ps_objects.specs.declared.key.Key.TheVariants as key
use Rattle.ps_objects.specs.declared.object.Kind.{Kind}
use Rattle.ps_objects.specs.declared.object.Kind.TheVariants as kind
use Rattle.ps_objects.specs.declared.object.Object.{Object}
use Rattle.ps_objects.specs.declared.objects.Interval.{Interval}
use Rattle.ps_objects.specs.declared.place.Loc.TheVariants as loc
use Rattle.ps_objects.specs.declared.place.Value.{Value}
use Rattle.ps_objects.specs.declared.place.Value.TheVariants as value
use Rattle.ps_kinds.specs.declared.state.State.{State}
use Rattle.ps_memory.specs.Memory.{Memory, value_at, shape_at, shape_of, item, held, at, Found, is, shaped, value_found}
use Rattle.ps_memory.specs.Tree.{Application, done, restores, fail, look, ask}
use Rattle.ps_meaning.specs.Answer.{Log, looked_in}
use Rattle.ps_meaning.specs.Fits.{FitsObject, FitsFound}
use Rattle.ps_meaning.specs.Ready.{Ready}
use Rattle.ps_operator.specs.Budgets.{storable}
use Rattle.ps_operator.specs.Keys.{find}
use Rattle.ps_operator.specs.Looks.{object_then, item_place}
use Rattle.ps_operator.specs.Standing.{is_array, is_named, Stays}
use Rattle.ps_operator.specs.Tree.{Reading, found, reads, went_on}
use Rattle.ps_operator.proofs.Standing.{named}
use Rattle.ps_operator.proofs.Then.{reads_then}
use Rattle.object_ops.specs.declared.binding.Bound.{Bound}
use Rattle.object_ops.specs.declared.binding.Item.{Item}
use Rattle.object_ops.specs.declared.binding.Item.TheVariants as item_is
use Rattle.object_ops.specs.declared.binding.Part.{Part}
use Rattle.object_ops.specs.Binding.{tried, if_operator, operator_in, operator_named, Walk, whole, after, beginning, begun, was_met, inner, executable_item, item_of, with_operator, goes_down, binds, passes, step, goes_on, walk, parts_stand, stores_stand, stands}

-- ---- what is tried

-- what a tree that is tried finds
abbrev tried_of : {A : Type 0} → Reading A → Reading (Option A)
tried_of r = elim r.outcome [ Ok x ↦ record { outcome = Ok (Some x); log = r.log } | Err e ↦ record { outcome = Ok None; log = r.log } ]

tried_gives : {A : Type 0} (t : Application A) (log : Log) → reads (tried t) log ≡ tried_of (reads t log)
unfolding tried
tried_gives (done ws x) log = refl
tried_gives (restores r ws x) log = refl
tried_gives (fail e) log = refl
tried_gives (look l f) log = tried_gives (f (value_at log.view l)) (looked_in log l)
tried_gives (ask c f) log = tried_gives (f (shape_of log.view c)) log

-- a tree that only looks leaves memory as it is
looks_leave : {A : Type 0} (t : Application A) (log : Log) → (reads t log).log.view ≡ log.view
looks_leave (done ws x) log = refl
looks_leave (restores r ws x) log = refl
looks_leave (fail e) log = refl
looks_leave (look l f) log = looks_leave (f (value_at log.view l)) (looked_in log l)
looks_leave (ask c f) log = looks_leave (f (shape_of log.view c)) log

module _ (ds : List Cell) (j : Key) (old new : Log) where
  named_by : (r : Result Object ErrorName) → reads (find ds j) old ≡ record { outcome = r; log = new } → reads (operator_named ds j) old ≡ went_on (tried_of (record { outcome = r; log = new })) (λ x. found (operator_in x))
  named_by r h =
      reads_then (tried (find ds j)) (λ x. found (operator_in x)) old
      ∙ ap (λ q. went_on q (λ x. found (operator_in x))) (tried_gives (find ds j) old ∙ ap tried_of h)

  pub named_found : (x : Object) → reads (find ds j) old ≡ record { outcome = Ok x; log = new } → reads (operator_named ds j) old ≡ record { outcome = Ok (if_operator x x.kind); log = new }
  named_found x h = named_by (Ok x) h

  pub named_nowhere : (e : ErrorName) → reads (find ds j) old ≡ record { outcome = Err e; log = new } → reads (operator_named ds j) old ≡ record { outcome = Ok None; log = new }
  named_nowhere e h = named_by (Err e) h

  pub looked_over : (e : ErrorName) → reads (find ds j) old ≡ record { outcome = Err e; log = new } → new.view ≡ old.view
  looked_over e h = ap (λ (q : Reading Object). q.log.view) (sym h) ∙ looks_leave (find ds j) old

-- ---- what stands

same_walk : (a b : Walk) (l m : Log) → ◌≡◌ {A = Reading Walk} (record { outcome = Ok a; log = l }) (record { outcome = Ok b; log = m }) → a ≡ b
same_walk a b l m e = go (ap (λ (r : Reading Walk). r.outcome) e)
  where
    go : ◌≡◌ {A = Result Walk ErrorName} (Ok a) (Ok b) → a ≡ b
    go q = cc

no_walk : (x : ErrorName) (b : Walk) (l m : Log) → ◌≡◌ {A = Reading Walk} (record { outcome = Err x; log = l }) (record { outcome = Ok b; log = m }) → ⊥
no_walk x b l m e = go (ap (λ (r : Reading Walk). r.outcome) e)
  where
    go : ◌≡◌ {A = Result Walk ErrorName} (Err x) (Ok b) → ⊥
    go q = cc

both : (a b : Bool) → a ≡ true → b ≡ true → (a && b) ≡ true
both a b p q = ap (λ x. x && b) p ∙ q

module _ (s : State) (M : Memory) (r : Ready s M) where
  -- the object that stands at a place fits
  fits_there : (c : Cell) (i : ℕ) (x : Object) (f : Found) → FitsFound (shape_at M) (item i) f → value_found f ≡ value.Object x → FitsObject (shape_at M) x
  fits_there c i x (is (value.Object y)) h e = let p : y ≡ x = cc in subst (FitsObject (shape_at M)) p h
  fits_there c i x (is value.Absent) h e = cc
  fits_there c i x (is (value.Byte n)) h e = cc
  fits_there c i x (is (value.Access a)) h e = cc
  fits_there c i x (is (value.Keys ks)) h e = cc
  fits_there c i x (is (value.Rand n)) h e = cc
  fits_there c i x (is (value.Paper p)) h e = cc
  fits_there c i x (shaped sh) h e = cc

  item_named : (c : Cell) (i : ℕ) (x : Object) → value_at M (loc.Item c i) ≡ value.Object x → is_named M x.kind ≡ true
  item_named c i x e = named s M r x.kind (fits_there c i x (at M (held c (item i))) (r.memory.slots c (item i)) e)

  inner_by : (c : Cell) (k : Kind) (b a : Interval) (right : Access) (t : Result (Unit {0}) ErrorName) → storable c k ≡ t → inner c k b right ≡ item_is.Inner a → b ≡ a
  inner_by c k b a Unlimited (Ok u) q e = go (ap (λ (z : Result (Unit {0}) ErrorName). elim z [ Ok u ↦ item_is.Inner b | Err e ↦ item_is.Other ]) (sym q) ∙ e)
    where
      go : item_is.Inner b ≡ item_is.Inner a → b ≡ a
      go e = cc
  inner_by c k b a Unlimited (Err x) q e = go (ap (λ (z : Result (Unit {0}) ErrorName). elim z [ Ok u ↦ item_is.Inner b | Err e ↦ item_is.Other ]) (sym q) ∙ e)
    where
      go : item_is.Other ≡ item_is.Inner a → b ≡ a
      go e = cc
  inner_by c k b a ReadOnly t q e = cc
  inner_by c k b a ExecuteOnly t q e = cc
  inner_by c k b a NoAccess t q e = cc

  inner_is : (c : Cell) (k : Kind) (right : Access) (a : Interval) → is_named M k ≡ true → executable_item c k right ≡ item_is.Inner a → is_array M a ≡ true
  inner_is c (kind.Array b packed) right a h e = subst (λ z. is_array M z ≡ true) (inner_by c (kind.Array b packed) b a right (storable c (kind.Array b packed)) refl e) h
  inner_is c (kind.Integer n) right a h e = cc
  inner_is c (kind.Real n) right a h e = cc
  inner_is c (kind.Boolean n) right a h e = cc
  inner_is c kind.Null right a h e = cc
  inner_is c kind.Mark right a h e = cc
  inner_is c (kind.Name n) right a h e = cc
  inner_is c (kind.Operator n) right a h e = cc
  inner_is c (kind.Str n) right a h e = cc
  inner_is c (kind.Dict n) right a h e = cc
  inner_is c (kind.File n) right a h e = cc
  inner_is c (kind.Filter n m) right a h e = cc
  inner_is c (kind.Save n) right a h e = cc
  inner_is c (kind.FontId n) right a h e = cc

  inner_stands : (c : Cell) (x : Object) (exec : Bool) (a : Interval) → is_named M x.kind ≡ true → item_of c (record x { exec = exec }) ≡ item_is.Inner a → is_array M a ≡ true
  inner_stands c x true a h e = inner_is c x.kind x.access a h e
  inner_stands c x false a h e = cc

  -- ---- an item that was looked at

  module _ (p : Part) (w v : Walk) (here : is_array M p.array ≡ true) (below : p.at < p.array.len) (old : stands M w ≡ true) where
    abbrev w1 : Walk
    w1 = record w { parts = after p ∷ w.parts }

    parts_old : parts_stand M w.parts ≡ true
    parts_old = first_so (parts_stand M w.parts) (stores_stand M w.stores) old

    stores_old : stores_stand M w.stores ≡ true
    stores_old = second_so (parts_stand M w.parts) (stores_stand M w.stores) old

    in_range : nat_lt p.at p.array.len ≡ true
    in_range = grind (arith, below)

    place : (is_array M p.array && nat_lt p.at p.array.len) ≡ true
    place = both (is_array M p.array) (nat_lt p.at p.array.len) here in_range

    next_parts : parts_stand M (after p ∷ w.parts) ≡ true
    next_parts = both (is_array M p.array) (parts_stand M w.parts) here parts_old

    next_stores : (x : Object) → stores_stand M (record { part = p; object = x } ∷ w.stores) ≡ true
    next_stores x = both (is_array M p.array && nat_lt p.at p.array.len) (stores_stand M w.stores) place stores_old

    on_stands : stands M w1 ≡ true
    on_stands = both (parts_stand M (after p ∷ w.parts)) (stores_stand M w.stores) next_parts stores_old

    with_stands : (o : Option Object) → stands M (with_operator p o w1) ≡ true
    with_stands None = on_stands
    with_stands (Some x) = both (parts_stand M (after p ∷ w.parts)) (stores_stand M (record { part = p; object = x } ∷ w.stores)) next_parts (next_stores x)

    down_parts : (a : Interval) (met : Bool) → is_array M a ≡ true → parts_stand M (cond met (after p ∷ w.parts) (whole a ∷ after p ∷ w.parts)) ≡ true
    down_parts a true h = next_parts
    down_parts a false h = both (is_array M a) (parts_stand M (after p ∷ w.parts)) h next_parts

    down_stands : (x : Object) (a : Interval) → is_array M a ≡ true → stands M (goes_down p x a w1) ≡ true
    down_stands x a h =
        both (parts_stand M (goes_down p x a w1).parts) (stores_stand M (goes_down p x a w1).stores)
        (down_parts a (was_met w.met (beginning a)) h) (next_stores (record x { access = ReadOnly }))

    binds_stand : (ds : List Cell) (x : Object) (i : Item) (l m : Log) → is_named M x.kind ≡ true → item_of p.array.cell x ≡ i → reads (binds ds p x i w1) l ≡ record { outcome = Ok v; log = m } → stands M v ≡ true
    binds_stand ds x item_is.Other l m h q e = subst (λ z. stands M z ≡ true) (same_walk w1 v l m e) on_stands
    binds_stand ds x (item_is.Inner a) l m h q e = subst (λ z. stands M z ≡ true) (same_walk (goes_down p x a w1) v l m e) (down_stands x a (inner_stands p.array.cell x x.exec a h q))
    binds_stand ds x (item_is.Name n) l m h q e =
        go (reads (operator_named ds (key.Name n)) l) (sym (reads_then (operator_named ds (key.Name n)) (λ o. found (with_operator p o w1)) l) ∙ e)
      where
        by : (o : Result (Option Object) ErrorName) (k : Log) → went_on (record { outcome = o; log = k }) (λ o. found (with_operator p o w1)) ≡ record { outcome = Ok v; log = m } → stands M v ≡ true
        by (Ok o) k g = subst (λ z. stands M z ≡ true) (same_walk (with_operator p o w1) v k m g) (with_stands o)
        by (Err x) k g = absurd (no_walk x v k m g)

        go : (z : Reading (Option Object)) → went_on z (λ o. found (with_operator p o w1)) ≡ record { outcome = Ok v; log = m } → stands M v ≡ true
        go z g = by z.outcome z.log g

-- what a walk goes to after an item stands
pub passed : (s : State) (p : Part) (w v : Walk) (old new : Log) → Ready s old.view → stands old.view w ≡ true → is_array old.view p.array ≡ true → p.at < p.array.len
    → reads (passes s.regs.dicts p w) old ≡ record { outcome = Ok v; log = new } → stands old.view v ≡ true
passed s p w v old new r h here below e = go (value_at old.view (item_place p.array p.at)) refl e
  where
    go : (u : Value) → value_at old.view (item_place p.array p.at) ≡ u
        → reads (object_then (λ x. binds s.regs.dicts p x (item_of p.array.cell x) (record w { parts = after p ∷ w.parts })) u) (looked_in old (item_place p.array p.at)) ≡ record { outcome = Ok v; log = new }
        → stands old.view v ≡ true
    go (value.Object x) q g =
        binds_stand s old.view r p w v here below h s.regs.dicts x (item_of p.array.cell x) (looked_in old (item_place p.array p.at)) new
        (item_named s old.view r p.array.cell (p.array.start + p.at) x q) refl g
    go value.Absent q g = absurd (no_walk Undefined v (looked_in old (item_place p.array p.at)) new g)
    go (value.Byte n) q g = absurd (no_walk Undefined v (looked_in old (item_place p.array p.at)) new g)
    go (value.Access a) q g = absurd (no_walk Undefined v (looked_in old (item_place p.array p.at)) new g)
    go (value.Keys ks) q g = absurd (no_walk Undefined v (looked_in old (item_place p.array p.at)) new g)
    go (value.Rand n) q g = absurd (no_walk Undefined v (looked_in old (item_place p.array p.at)) new g)
    go (value.Paper z) q g = absurd (no_walk Undefined v (looked_in old (item_place p.array p.at)) new g)

-- the same after a step
pub step_stands : (s : State) (p : Part) (w v : Walk) (old new : Log) → Ready s old.view → stands old.view w ≡ true → is_array old.view p.array ≡ true
    → reads (step s.regs.dicts p w) old ≡ record { outcome = Ok v; log = new } → stands old.view v ≡ true
step_stands s p w v old new r h here e = go (nat_lt p.at p.array.len) refl e
  where
    go : (b : Bool) → nat_lt p.at p.array.len ≡ b → reads (cond b (passes s.regs.dicts p w) (found w)) old ≡ record { outcome = Ok v; log = new } → stands old.view v ≡ true
    go true q g = passed s p w v old new r h here (grind (arith, q)) g
    go false q g = subst (λ z. stands old.view z ≡ true) (same_walk w v old new g) h

-- what comes of an item that was looked at
pub passes_as : (ds : List Cell) (p : Part) (w v : Walk) (old mid new : Log) (x : Object) (i : Item) → value_at old.view (item_place p.array p.at) ≡ value.Object x → mid ≡ looked_in old (item_place p.array p.at) → i ≡ item_of p.array.cell x
    → reads (binds ds p x i (record w { parts = after p ∷ w.parts })) mid ≡ record { outcome = Ok v; log = new } → reads (passes ds p w) old ≡ record { outcome = Ok v; log = new }
passes_as ds p w v old mid new x i e l q h =
    ap (λ u. reads (object_then (λ x. binds ds p x (item_of p.array.cell x) (record w { parts = after p ∷ w.parts })) u) (looked_in old (item_place p.array p.at))) e
    ∙ (λ t. reads (binds ds p x (sym q t) (record w { parts = after p ∷ w.parts })) (sym l t))
    ∙ h

-- ---- what is left stands

module _ (M : Memory) (w : Walk) (p : Part) (ps : List Part) (e : w.parts ≡ p ∷ ps) (h : stands M w ≡ true) where
  left_stand : (is_array M p.array && parts_stand M ps) ≡ true
  left_stand = sym (ap (parts_stand M) e) ∙ first_so (parts_stand M w.parts) (stores_stand M w.stores) h

  pub part_stands : is_array M p.array ≡ true
  part_stands = first_so (is_array M p.array) (parts_stand M ps) left_stand

  pub rest_stands : stands M (record w { parts = ps }) ≡ true
  rest_stands = both (parts_stand M ps) (stores_stand M w.stores) (second_so (is_array M p.array) (parts_stand M ps) left_stand) (second_so (parts_stand M w.parts) (stores_stand M w.stores) h)

pub stores_stand_then : (M : Memory) (w : Walk) → stands M w ≡ true → stores_stand M w.stores ≡ true
stores_stand_then M w h = second_so (parts_stand M w.parts) (stores_stand M w.stores) h

-- the walk that begins with an array that stands
pub begun_stands : (M : Memory) (a : Interval) (w : Walk) → w ≡ begun a → is_array M a ≡ true → stands M w ≡ true
begun_stands M a w e h = ap (stands M) e ∙ both (is_array M a && true) true (both (is_array M a) true h refl) refl

-- ---- stores

module _ (M : Memory) (b : Bound) (bs : List Bound) (h : stores_stand M (b ∷ bs) ≡ true) where
  here : (is_array M b.part.array && nat_lt b.part.at b.part.array.len) ≡ true
  here = first_so (is_array M b.part.array && nat_lt b.part.at b.part.array.len) (stores_stand M bs) h

  pub place_stands : is_array M b.part.array ≡ true
  place_stands = first_so (is_array M b.part.array) (nat_lt b.part.at b.part.array.len) here

  pub place_below : b.part.at < b.part.array.len
  place_below = lower b.part.at b.part.array.len (second_so (is_array M b.part.array) (nat_lt b.part.at b.part.array.len) here)
    where
      lower : (m n : ℕ) → nat_lt m n ≡ true → m < n
      lower m n e = grind (arith, e)

  pub others_stand : stores_stand M bs ≡ true
  others_stand = second_so (is_array M b.part.array && nat_lt b.part.at b.part.array.len) (stores_stand M bs) h

pub stores_stay : (M N : Memory) (bs : List Bound) → Stays M N → stores_stand M bs ≡ true → stores_stand N bs ≡ true
stores_stay M N [] s h = refl
stores_stay M N (b ∷ bs) s h =
    both (is_array N b.part.array && nat_lt b.part.at b.part.array.len) (stores_stand N bs)
    (both (is_array N b.part.array) (nat_lt b.part.at b.part.array.len) (s.arrays b.part.array (place_stands M b bs h)) (second_so (is_array M b.part.array) (nat_lt b.part.at b.part.array.len) (here M b bs h)))
    (stores_stay M N bs s (others_stand M b bs h))

-- ---- steps of the walk

module _ (ds : List Cell) (n i : ℕ) (w : Walk) (log : Log) where
  -- nothing is left
  pub walk_end : w.parts ≡ [] → reads (walk n ds w) log ≡ record { outcome = Ok w.stores; log = log }
  unfolding walk
  walk_end e = go n
    where
      go : (n : ℕ) → reads (walk n ds w) log ≡ record { outcome = Ok w.stores; log = log }
      go zero = refl
      go (suc n) = ap (λ ps. reads (goes_on ds (walk n ds) w ps) log) e

  -- no step is left
  pub walk_over : n ≡ i → reads (walk (n - i) ds w) log ≡ record { outcome = Ok w.stores; log = log }
  unfolding walk
  walk_over e = ap (λ k. reads (walk k ds w) log) (none n i e)
    where
      none : (n i : ℕ) → n ≡ i → n - i ≡ 0
      none n i e = omega (arith, e)

  one_more : i < n → n - i ≡ suc (n - (i + 1))
  one_more l = omega (arith, l)

  -- a step
  pub walk_step : (p : Part) (ps : List Part) (v : Walk) (new : Log) → i < n → w.parts ≡ p ∷ ps → reads (step ds p (record w { parts = ps })) log ≡ record { outcome = Ok v; log = new } → reads (walk (n - i) ds w) log ≡ reads (walk (n - (i + 1)) ds v) new
  unfolding walk
  walk_step p ps v new l e g =
      ap (λ k. reads (walk k ds w) log) (one_more l)
      ∙ ap (λ qs. reads (goes_on ds (walk (n - (i + 1)) ds) w qs) log) e
      ∙ reads_then (step ds p (record w { parts = ps })) (walk (n - (i + 1)) ds) log
      ∙ ap (λ q. went_on q (walk (n - (i + 1)) ds)) g
