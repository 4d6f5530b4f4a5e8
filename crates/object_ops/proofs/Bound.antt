-- `bind` keeps a state that fits: it looks where there is a place, and stores what fits.
use Rattle.std.proofs.Common.{◌≡◌, ℕ, zero, suc, ◌+◌, ◌<◌, Bool, true, false, cond, not, ◌&&◌, ◌||◌, nat_lt, nat_eq, List, [], ◌∷◌, Option, Some, None, Result, Ok, Err, refl, sym, ap, ◌∙◌, subst, arith}
use Rattle.std.specs.Bool.{⊤}
use Rattle.std.specs.List.{AllByRecursion}
use Rattle.ps_names.specs.declared.error_name.ErrorName.{ErrorName}
use Rattle.ps_names.specs.declared.error_name.ErrorName.TheVariants.{InvalidAccess}
use Rattle.ps_objects.specs.declared.access.Access.{Access}
use Rattle.ps_objects.specs.declared.access.Access.TheVariants.{Unlimited, ReadOnly, ExecuteOnly, NoAccess}
use Rattle.ps_objects.specs.declared.cell.Cell.{Cell}
use Rattle.ps_objects.specs.declared.key.Key.{Key}
use Rattle.ps_objects.specs.declared.key.Key.TheVariants as key
use Rattle.ps_objects.specs.declared.object.Kind.{Kind}
use Rattle.ps_objects.specs.declared.object.Kind.TheVariants as kind
use Rattle.ps_objects.specs.declared.object.Object.{Object}
use Rattle.ps_objects.specs.declared.objects.Interval.{Interval}
use Rattle.ps_objects.specs.declared.place.Loc.TheVariants as loc
use Rattle.ps_objects.specs.declared.place.Value.{Value}
use Rattle.ps_objects.specs.declared.place.Value.TheVariants as value
use Rattle.ps_objects.specs.Object.{cell_named}
use Rattle.ps_objects.specs.Operands.{needed, array_of, procedure_of, procedure_at, writable_at}
use Rattle.ps_memory.specs.Memory.{is_global}
use Rattle.ps_memory.specs.Tree.{Application, done, restores, fail, look, ask}
use Rattle.ps_meaning.specs.Answer.{names_taken}
use Rattle.ps_meaning.specs.Fits.{Shapes, FitsCell, FitsObject, takes, IsDict, lies_within, is_system_dict, value_is_shared}
use Rattle.ps_meaning.specs.Sound.{World, IsAnswer}
use Rattle.ps_operator.specs.Budgets.{is_local, storable}
use Rattle.ps_operator.specs.Keys.{find}
use Rattle.ps_operator.specs.Lawful.{HasItems, Changes, Leaves, Looks, IsLawful}
use Rattle.ps_operator.specs.Looks.{object_then, look_item}
use Rattle.ps_operator.specs.Registers.{ops, quiet}
use Rattle.ps_operator.specs.Tree.{found}
use Rattle.ps_operator.proofs.Fitting.{Fit, array_fits}
use Rattle.ps_operator.proofs.Lawful.{read_keeps, leaves_kept, find_look}
use Rattle.ps_operator.proofs.Seeking.{Seeks, found_seeks, then_seeks, seeking_keeps}
use Rattle.object_ops.specs.declared.binding.Bound.{Bound}
use Rattle.object_ops.specs.declared.binding.Item.{Item}
use Rattle.object_ops.specs.declared.binding.Item.TheVariants as item_is
use Rattle.object_ops.specs.declared.binding.Part.{Part}
use Rattle.object_ops.specs.declared.binding.TheConstants.{STEPS}
use Rattle.object_ops.specs.Binding.{tried, if_operator, operator_in, operator_named, Walk, whole, after, beginning, begun, was_met, inner, executable_item, item_of, with_operator, goes_down, binds, passes, step, goes_on, walk, bound_stores, bind}

-- ---- looks

tried_looks : {A : Type 0} (W : World) (P : A → Type 0) (Q : Option A → Type 0) (t : Application A) → ((x : A) → P x → Q (Some x)) → Q None → Looks t W P → Looks (tried t) W Q
unfolding tried
tried_looks W P Q (done ws x) g n h = g x h
tried_looks W P Q (restores r ws x) g n h = g x h
tried_looks W P Q (fail e) g n h = n
tried_looks W P Q (look l f) g n h = (h.0, λ v a. tried_looks W P Q (f v) g n (h.1 v a))
tried_looks W P Q (ask c f) g n h = (h.0, tried_looks W P Q (f _) g n h.1)

-- a look at an item, where something is sought
item_seeks : {A : Type 0} {W : World} {P : A → Type 0} {a : Interval} {k : Object → Application A} (i : ℕ) → HasItems W.shapes a → i < a.len
    → ((x : Object) → FitsObject W.shapes x → Seeks W P (k x)) → Seeks W P (look_item a i k)
item_seeks {W = W} {P = P} {a = a} {k = k} i h l g = record { looks = ((h.size, h.stands, within a.start a.len h.size h.within l), go) }
  where
    within : (start len n : ℕ) → lies_within start len n ≡ true → i < len → start + i < n
    within start len n h l = grind arith

    go : (v : Value) → IsAnswer W (loc.Item a.cell (a.start + i)) v → Looks (object_then k v) W P
    go (value.Object x) e = (g x e).looks
    go value.Absent e = absurd e
    go (value.Access y) e = absurd e
    go (value.Byte n) e = absurd e
    go (value.Keys ks) e = absurd e
    go (value.Rand n) e = absurd e
    go (value.Paper p) e = absurd e

-- ---- what is found

-- an operator is found, or nothing
abbrev IsOperator : Option Object → Type 0
IsOperator None = ⊤
IsOperator (Some x) = cell_named x.kind ≡ None

operator_is : (x : Object) (k : Kind) → x.kind ≡ k → IsOperator (if_operator x k)
operator_is x (kind.Operator op) e = ap cell_named e
operator_is x (kind.Integer n) e = tt
operator_is x (kind.Real n) e = tt
operator_is x (kind.Boolean n) e = tt
operator_is x kind.Null e = tt
operator_is x kind.Mark e = tt
operator_is x (kind.Name n) e = tt
operator_is x (kind.Str n) e = tt
operator_is x (kind.Array n packed) e = tt
operator_is x (kind.Dict n) e = tt
operator_is x (kind.File n) e = tt
operator_is x (kind.Filter n m) e = tt
operator_is x (kind.Save n) e = tt
operator_is x (kind.FontId n) e = tt

operator_was : (o : Option Object) → IsOperator (operator_in o)
operator_was None = tt
operator_was (Some x) = operator_is x x.kind refl

abbrev AnyOption : Option Object → Type 0
AnyOption o = ⊤

named_seeks : (W : World) (ds : List Cell) (j : Key) → AllByRecursion (IsDict W.shapes) ds → Seeks W IsOperator (operator_named ds j)
named_seeks W ds j h =
    then_seeks AnyOption (tried (find ds j)) (record { looks = tried_looks W (FitsObject W.shapes) AnyOption (find ds j) (λ x _. tt) tt (find_look W ds j h) }) (λ o _.
    found_seeks IsOperator (operator_in o) (operator_was o))

-- ---- what fits

-- an object that is to be stored at a place that is there, and may lie there
pub record FitsBound (W : World) (b : Bound) : Type 0 where
  pub array : HasItems W.shapes b.part.array
  pub within : b.part.at < b.part.array.len
  pub object : FitsObject W.shapes b.object
  pub shared : is_global b.part.array.cell ≡ true → value_is_shared b.part.array.cell (cell_named b.object.kind) ≡ true

abbrev FitBound : World → List Bound → Type 0
FitBound W = AllByRecursion (FitsBound W)

-- the array of a part stands
pub record FitsPart (W : World) (p : Part) : Type 0 where
  pub array : HasItems W.shapes p.array

-- a walk whose parts and stores fit
pub record FitsWalk (W : World) (w : Walk) : Type 0 where
  pub parts : AllByRecursion (FitsPart W) w.parts
  pub stores : FitBound W w.stores

-- ---- what an inner array is

-- what is known of an item that is gone through
record IsInner (W : World) (c : Cell) (x : Object) (a : Interval) : Type 0 where
  array : HasItems W.shapes a
  shared : is_global c ≡ true → value_is_shared c (cell_named x.kind) ≡ true

shared_by : (c : Cell) (o : Option Cell) (g : Bool) → is_global c ≡ g → cond {A = Result (Unit {0}) ErrorName} (g && is_local o) (Err InvalidAccess) (Ok tt) ≡ Ok tt → g ≡ true → value_is_shared c o ≡ true
shared_by c None true q e h = refl
shared_by c (Some d) true q e h = go (is_global d) e
  where
    go : (b : Bool) → cond {A = Result (Unit {0}) ErrorName} (not b) (Err InvalidAccess) (Ok tt) ≡ Ok tt → b || (is_system_dict c && nat_eq d.section 0) ≡ true
    go true e = refl
    go false e = cc
shared_by c o false q e h = cc

storable_shared : (c : Cell) (k : Kind) (u : Unit {0}) → storable c k ≡ Ok u → is_global c ≡ true → value_is_shared c (cell_named k) ≡ true
storable_shared c k u e h = shared_by c (cell_named k) (is_global c) refl e h

module _ (W : World) (c : Cell) (x : Object) (fits : FitsObject W.shapes x) where
  inner_fits : (b a : Interval) (packed : Bool) (right : Access) (t : Result (Unit {0}) ErrorName) → x.kind ≡ kind.Array b packed → storable c (kind.Array b packed) ≡ t → inner c (kind.Array b packed) b right ≡ item_is.Inner a → IsInner W c x a
  inner_fits b a packed Unlimited (Ok u) k q e =
      let p : b ≡ a = same (ap (λ (z : Result (Unit {0}) ErrorName). elim z [ Ok u ↦ item_is.Inner b | Err e ↦ item_is.Other ]) (sym q) ∙ e) in
      record {
        array = subst (HasItems W.shapes) p (array_fits W.shapes (x ∷ []) 0 b (fits, tt) (ap array_of k));
        shared = λ h. subst (λ k. value_is_shared c (cell_named k) ≡ true) (sym k) (storable_shared c (kind.Array b packed) u q h);
      }
    where
      same : item_is.Inner b ≡ item_is.Inner a → b ≡ a
      same e = cc
  inner_fits b a packed Unlimited (Err y) k q e = absurd (no (ap (λ (z : Result (Unit {0}) ErrorName). elim z [ Ok u ↦ item_is.Inner b | Err e ↦ item_is.Other ]) (sym q) ∙ e))
    where
      no : item_is.Other ≡ item_is.Inner a → ⊥
      no e = cc
  inner_fits b a packed ReadOnly t k q e = cc
  inner_fits b a packed ExecuteOnly t k q e = cc
  inner_fits b a packed NoAccess t k q e = cc

  executable_fits : (k : Kind) (right : Access) (a : Interval) → x.kind ≡ k → executable_item c k right ≡ item_is.Inner a → IsInner W c x a
  executable_fits (kind.Array b packed) right a k e = inner_fits b a packed right (storable c (kind.Array b packed)) k refl e
  executable_fits (kind.Integer n) right a k e = cc
  executable_fits (kind.Real n) right a k e = cc
  executable_fits (kind.Boolean b) right a k e = cc
  executable_fits kind.Null right a k e = cc
  executable_fits kind.Mark right a k e = cc
  executable_fits (kind.Name n) right a k e = cc
  executable_fits (kind.Operator n) right a k e = cc
  executable_fits (kind.Str n) right a k e = cc
  executable_fits (kind.Dict n) right a k e = cc
  executable_fits (kind.File n) right a k e = cc
  executable_fits (kind.Filter n m) right a k e = cc
  executable_fits (kind.Save n) right a k e = cc
  executable_fits (kind.FontId n) right a k e = cc

  item_fits : (a : Interval) (exec : Bool) → x.exec ≡ exec → cond exec (executable_item c x.kind x.access) item_is.Other ≡ item_is.Inner a → IsInner W c x a
  item_fits a true q e = executable_fits x.kind x.access a refl e
  item_fits a false q e = cc

-- ---- the walk

module _ (W : World) (ds : List Cell) (hd : AllByRecursion (IsDict W.shapes) ds) where
  module _ (p : Part) (w : Walk) (f : FitsWalk W w) (h : HasItems W.shapes p.array) (l : p.at < p.array.len) where
    abbrev w1 : Walk
    w1 = record w { parts = after p ∷ w.parts }

    next : AllByRecursion (FitsPart W) w1.parts
    next = (record { array = h }, f.parts)

    none_fits : FitsWalk W w1
    none_fits = record { parts = next; stores = f.stores }

    with_fits : (o : Option Object) → IsOperator o → FitsWalk W (with_operator p o w1)
    with_fits None q = none_fits
    with_fits (Some x) q = record {
      parts = next;
      stores = (
        record { array = h; within = l; object = simple (cell_named x.kind) q; shared = λ _. subst (λ o. value_is_shared p.array.cell o ≡ true) (sym q) refl },
        f.stores,
      );
    }
      where
        simple : (o : Option Cell) → o ≡ None → FitsObject W.shapes x
        simple o e = subst (λ o. FitsCell W.shapes o (takes x.kind)) (sym q) tt

    down_parts : (a : Interval) (met : Bool) → HasItems W.shapes a → AllByRecursion (FitsPart W) (cond met w1.parts (whole a ∷ w1.parts))
    down_parts a true g = next
    down_parts a false g = (record { array = g }, next)

    down_fits : (x : Object) (a : Interval) → FitsObject W.shapes x → IsInner W p.array.cell x a → FitsWalk W (goes_down p x a w1)
    down_fits x a g i = record {
      parts = down_parts a (was_met w.met (beginning a)) i.array;
      stores = (record { array = h; within = l; object = g; shared = i.shared }, f.stores);
    }

    binds_seek : (x : Object) (i : Item) → FitsObject W.shapes x → item_of p.array.cell x ≡ i → Seeks W (FitsWalk W) (binds ds p x i w1)
    binds_seek x item_is.Other g q = found_seeks (FitsWalk W) w1 none_fits
    binds_seek x (item_is.Inner a) g q = found_seeks (FitsWalk W) (goes_down p x a w1) (down_fits x a g (item_fits W p.array.cell x g a x.exec refl q))
    binds_seek x (item_is.Name n) g q =
        then_seeks IsOperator (operator_named ds (key.Name n)) (named_seeks W ds (key.Name n) hd) (λ o i.
        found_seeks (FitsWalk W) (with_operator p o w1) (with_fits o i))

    passes_seek : Seeks W (FitsWalk W) (passes ds p w)
    passes_seek = item_seeks p.at h l (λ x g. binds_seek x (item_of p.array.cell x) g refl)

  step_seeks : (p : Part) (w : Walk) → FitsPart W p → FitsWalk W w → Seeks W (FitsWalk W) (step ds p w)
  step_seeks p w h f = go (nat_lt p.at p.array.len) refl
    where
      go : (b : Bool) → nat_lt p.at p.array.len ≡ b → Seeks W (FitsWalk W) (cond b (passes ds p w) (found w))
      go true q = passes_seek p w f h.array (grind (arith, q))
      go false q = found_seeks (FitsWalk W) w f

  on_seeks : (k : Walk → Application (List Bound)) → ((v : Walk) → FitsWalk W v → Seeks W (FitBound W) (k v)) → (w : Walk) → FitsWalk W w → (ps : List Part) → AllByRecursion (FitsPart W) ps
      → Seeks W (FitBound W) (goes_on ds k w ps)
  on_seeks k g w f [] h = found_seeks (FitBound W) w.stores f.stores
  on_seeks k g w f (p ∷ ps) h =
      then_seeks (FitsWalk W) (step ds p (record w { parts = ps })) (step_seeks p (record w { parts = ps }) h.0 (record { parts = h.1; stores = f.stores })) g

  walk_seeks : (n : ℕ) (w : Walk) → FitsWalk W w → Seeks W (FitBound W) (walk n ds w)
  unfolding walk
  walk_seeks zero w f = found_seeks (FitBound W) w.stores f.stores
  walk_seeks (suc n) w f = on_seeks (walk n ds) (λ v i. walk_seeks n v i) w f w.parts f.parts

-- ---- the stores

stores_change : (W : World) (n : ℕ) (Q : World → Type 0) (bs : List Bound) → FitBound W bs → Q W → Changes (bound_stores bs) W n Q
stores_change W n Q [] h q = q
stores_change W n Q (b ∷ bs) h q =
    ((h.0.array.size, h.0.array.stands, there b.part.array.start b.part.array.len h.0.array.size b.part.at h.0.array.within h.0.within), refl, h.0.object, h.0.shared, stores_change W n Q bs h.1 q)
  where
    there : (start len n i : ℕ) → lies_within start len n ≡ true → i < len → start + i < n
    there start len n i h l = grind arith

pub stores_take_none : (bs : List Bound) → names_taken (bound_stores bs) ≡ 0
stores_take_none [] = refl
stores_take_none (b ∷ bs) = stores_take_none bs

procedure_has : (K : Shapes) (xs : List Object) (a : Interval) → Fit K xs → procedure_at 0 xs ≡ Ok a → HasItems K a
procedure_has K [] a h e = cc
procedure_has K (y ∷ ys) a h e = go y.exec e
  where
    go : (exec : Bool) → procedure_of (record y { exec = exec }) ≡ Ok a → HasItems K a
    go true e = array_fits K (y ∷ ys) 0 a h e
    go false e = cc

pub bind_keeps : IsLawful bind
bind_keeps text s W f =
    let o : Fit W.shapes (ops s) = f.state.registers.operands in
    read_keeps (needed 1 (ops s)) (λ _ _.
    read_keeps (procedure_at 0 (ops s)) (λ a e.
    read_keeps (writable_at 0 (ops s)) (λ _ _.
    seeking_keeps (FitBound W) (walk STEPS s.regs.dicts (begun a))
    (walk_seeks W s.regs.dicts f.state.registers.dicts STEPS (begun a) (record { parts = (record { array = procedure_has W.shapes (ops s) a o e }, tt); stores = tt })) (λ bs g.
    let left = leaves_kept text 4 s W f (ops s) o in
    record { lawful = stores_change W s.count (Leaves text 4 s.frames s (names_taken (bound_stores bs)) (quiet s)) bs g (subst (λ k. Leaves text 4 s.frames s k (quiet s) W) (sym (stores_take_none bs)) left) }))))
