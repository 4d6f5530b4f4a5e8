-- What fits where an operator or a step of this crate goes on, and lemmas on looks that its trees need.
use Rattle.std.proofs.Common.{◌≡◌, ℕ, zero, suc, ◌+◌, ◌<◌, ◌==◌, Bool, true, false, cond, nat_lt, List, [], ◌∷◌, ◌++◌, length, Option, Some, None, slice_get, Ok, refl, sym, ap, subst, true≢false, arith}
use Rattle.std.specs.List.{AllByRecursion}
use Rattle.ps_objects.specs.Key.{told_key}
use Rattle.ps_objects.specs.Object.{cell_named}
use Rattle.ps_objects.specs.Operands.{string_of}
use Rattle.ps_objects.specs.declared.cell.Cell.{Cell}
use Rattle.ps_objects.specs.declared.key.Key.{Key}
use Rattle.ps_objects.specs.declared.key.Key.TheVariants as key
use Rattle.ps_objects.specs.declared.object.Kind.{Kind}
use Rattle.ps_objects.specs.declared.object.Kind.TheVariants as kind
use Rattle.ps_objects.specs.declared.object.Object.{Object}
use Rattle.ps_objects.specs.declared.objects.Interval.{Interval}
use Rattle.ps_objects.specs.declared.place.Loc.TheVariants as loc
use Rattle.ps_objects.specs.declared.place.Shape.{Shape}
use Rattle.ps_objects.specs.declared.place.Shape.TheVariants as shape
use Rattle.ps_objects.specs.declared.place.Value.{Value}
use Rattle.ps_objects.specs.declared.place.Value.TheVariants as value
use Rattle.ps_kinds.specs.declared.act.Act.TheVariants as act
use Rattle.ps_kinds.specs.declared.frame.Frame.{Frame}
use Rattle.ps_kinds.specs.declared.frame.Frame.TheVariants as frame
use Rattle.ps_kinds.specs.declared.frame.Pair.{Pair}
use Rattle.ps_kinds.specs.declared.state.State.{State}
use Rattle.ps_memory.specs.Tree.{Application}
use Rattle.ps_meaning.specs.Fits.{Shapes, lies_within, takes, key_takes, FitsCell, FitsObject, FitsKey}
use Rattle.ps_meaning.specs.Ready.{FitsPair, FitsFrame, FitsAct}
use Rattle.ps_meaning.specs.Sound.{World, IsAnswer}
use Rattle.ps_operator.specs.Keys.{bytes_of}
use Rattle.ps_operator.specs.Lawful.{HasDict, HasItems, HasBytes, FitsOption, Lawfully, Keeps, Looks}
use Rattle.ps_operator.specs.Looks.{keys_then, entry_then, byte_then, look_keys, look_entry, look_byte}
use Rattle.ps_operator.specs.Tree.{Ask, found}
use Rattle.ps_operator.proofs.Fitting.{array_fits, string_kind, dict_fits}
use Rattle.ps_operator.proofs.Lawful.{AreBytes, bytes_look_lawfully, then_looks}
use Rattle.ps_operator.proofs.Seeking.{Seeks}
use Rattle.control_ops.specs.Calls.{is_empty, call_of}
use Rattle.control_ops.specs.Executing.{start_of, text_of}
use Rattle.control_ops.specs.Loops.{walked_of, with_pair, pairs_from}
use Rattle.control_ops.specs.Rounds.{items_in, bytes_in, place_left}
use Rattle.control_ops.specs.declared.executing.Start.TheVariants as start
use Rattle.control_ops.specs.declared.walking.Walked.TheVariants as walked
use Rattle.control_ops.proofs.Starts.{scanned_kind, walked_kind}

-- ---- what is called, scanned or walked

pub call_fits : (K : Shapes) (x : Object) → FitsObject K x → FitsAct K (call_of x)
call_fits K x h = go (is_empty x.kind)
  where
    go : (b : Bool) → FitsAct K (cond b act.Done (act.Body (frame.Proc x 0)))
    go true = tt
    go false = h

pub scanned_fits : (K : Shapes) (x : Object) (part : Interval) → FitsObject K x → start_of x ≡ Ok (start.Scanned part) → HasBytes K part
scanned_fits K x part h e = string_kind K x.kind part h (ap string_of (scanned_kind x part e))

pub text_looks : (W : World) (x : Object) (part : Interval) → FitsObject W.shapes x → HasBytes W.shapes part → Looks (text_of x part) W (FitsFrame W.shapes)
text_looks W x part h g = then_looks W (bytes_of part) (λ bs. found (frame.Text x bs 0)) (AreBytes W part.len) (FitsFrame W.shapes) (bytes_look_lawfully W part g) (λ bs q. (h, omega arith))

walked_cell : (K : Shapes) (x : Object) (k : Kind) (d : Cell) → FitsObject K (record x { kind = k }) → k ≡ kind.Dict d → HasDict K d
walked_cell K x k d h e = dict_fits K (record x { kind = kind.Dict d } ∷ []) 0 d (subst (λ k. FitsObject K (record x { kind = k })) e h, tt) refl

pub walked_fits : (K : Shapes) (x : Object) (d : Cell) → FitsObject K x → walked_of x.kind ≡ Ok (walked.Pairs d) → HasDict K d
walked_fits K x d h e = walked_cell K x x.kind d h (walked_kind x.kind d e)

-- ---- looks at keys, entries and bytes

pub keys_keeps : {text : List ℕ} {most : ℕ} {below : List Frame} {s : State} {W : World} {d : Cell} {k : List Key → Ask} → HasDict W.shapes d
    → ((ks : List Key) → AllByRecursion (FitsKey W.shapes) ks → Keeps text most below (k ks) s W) → Keeps text most below (look_keys d k) s W
keys_keeps {text = text} {most = most} {below = below} {s = s} {W = W} {d = d} {k = k} h g = record { lawful = (h.stands, go) }
  where
    go : (v : Value) → IsAnswer W (loc.Keys d) v → Lawfully text most below (keys_then k v) s W
    go (value.Keys ks) e = (g ks e).lawful
    go value.Absent e = absurd e
    go (value.Object x) e = absurd e
    go (value.Byte n) e = absurd e
    go (value.Access a) e = absurd e
    go (value.Rand n) e = absurd e
    go (value.Paper p) e = absurd e

within : (start len n i : ℕ) → lies_within start len n ≡ true → i < len → start + i < n
within start len n i h l = grind arith

pub byte_keeps : {text : List ℕ} {most : ℕ} {below : List Frame} {s : State} {W : World} {a : Interval} {k : ℕ → Ask} (i : ℕ) → HasBytes W.shapes a → i < a.len
    → ((b : ℕ) → Keeps text most below (k b) s W) → Keeps text most below (look_byte a i k) s W
byte_keeps {text = text} {most = most} {below = below} {s = s} {W = W} {a = a} {k = k} i h l g = record { lawful = ((h.size, h.stands, within a.start a.len h.size i h.within l), go) }
  where
    go : (v : Value) → IsAnswer W (loc.Byte a.cell (a.start + i)) v → Lawfully text most below (byte_then k v) s W
    go (value.Byte b) e = (g b).lawful
    go value.Absent e = absurd e
    go (value.Object x) e = absurd e
    go (value.Access x) e = absurd e
    go (value.Keys ks) e = absurd e
    go (value.Rand n) e = absurd e
    go (value.Paper p) e = absurd e

entry_seeks : {A : Type 0} {W : World} {P : A → Type 0} {d : Cell} {j : Key} {k : Option Object → Application A} → HasDict W.shapes d
    → ((x : Option Object) → FitsOption W.shapes x → Seeks W P (k x)) → Seeks W P (look_entry d j k)
entry_seeks {W = W} {P = P} {d = d} {j = j} {k = k} h g = record { looks = (h.stands, go) }
  where
    go : (v : Value) → IsAnswer W (loc.Entry d j) v → Looks (entry_then k v) W P
    go (value.Object x) e = (g (Some x) e.1).looks
    go value.Absent e = (g None tt).looks
    go (value.Byte n) e = absurd e
    go (value.Access a) e = absurd e
    go (value.Keys ks) e = absurd e
    go (value.Rand n) e = absurd e
    go (value.Paper p) e = absurd e

-- ---- pairs

module _ (W : World) (d : Cell) (here : HasDict W.shapes d) where
  abbrev Paired : List Pair → Type 0
  Paired = AllByRecursion (FitsPair W.shapes)

  one_more : (ps : List Pair) (p : Pair) → Paired ps → FitsPair W.shapes p → Paired (ps ++ p ∷ [])
  one_more [] p h g = (g, tt)
  one_more (q ∷ ps) p h g = (h.0, one_more ps p h.1 g)

  pair_fits : (ps : List Pair) (k : Key) (x : Option Object) → Paired ps → FitsKey W.shapes k → FitsOption W.shapes x → Paired (with_pair ps k x)
  pair_fits ps k None h g e = h
  pair_fits ps k (Some x) h g e = one_more ps (record { key = k; value = x }) h (g, e)

  pub pairs_seek : (ks : List Key) (ps : List Pair) → AllByRecursion (FitsKey W.shapes) ks → Paired ps → Seeks W Paired (pairs_from d ks ps)
  pairs_seek [] ps h g = record { looks = g }
  pairs_seek (k ∷ ks) ps h g = entry_seeks here (λ x e. pairs_seek ks (with_pair ps k x) h.1 (pair_fits ps k x g h.0 e))

pub among : {A : Type 0} (P : A → Type 0) (xs : List A) (i : ℕ) (x : A) → AllByRecursion P xs → slice_get xs i ≡ Some x → P x
among P [] i x h e = cc
among P (y ∷ ys) zero x h e = let p : y ≡ x = cc in subst P p h.0
among P (y ∷ ys) (suc i) x h e = among P ys i x h.1 e

-- more than none is more
pub more_than_none : (n : ℕ) → nat_lt 0 (suc n) ≡ false → ⊥
more_than_none n e = grind arith

pub none_left : {A : Type 0} (xs : List A) (i : ℕ) → nat_lt i (length xs) ≡ false → slice_get xs i ≡ None
none_left [] i e = refl
none_left (y ∷ ys) zero e = absurd (more_than_none (length ys) e)
none_left (y ∷ ys) (suc i) e = none_left ys i (fewer i (length ys) e)
  where
    fewer : (i n : ℕ) → nat_lt (suc i) (suc n) ≡ false → nat_lt i n ≡ false
    fewer i n e = grind arith

-- ---- keys as programs are told them

file_fits : (K : Shapes) (b : Bool) (section layer : ℕ) → FitsCell K (cell_named (cond b (kind.File section) (kind.Filter section layer))) (takes (cond b (kind.File section) (kind.Filter section layer)))
file_fits K true section layer = tt
file_fits K false section layer = tt

array_told : (part : Interval) (packed : Bool) (sh : Shape) → key_takes (key.Array part packed) sh ≡ true → takes (kind.Array part packed) sh ≡ true
array_told part packed (shape.Array n) h = h
array_told part packed (shape.Dict n) h = absurd (true≢false (sym h))
array_told part packed (shape.Str n) h = absurd (true≢false (sym h))

dict_told : (c : Cell) (sh : Shape) → key_takes (key.Dict c) sh ≡ true → takes (kind.Dict c) sh ≡ true
dict_told c (shape.Dict n) h = h
dict_told c (shape.Array n) h = absurd (true≢false (sym h))
dict_told c (shape.Str n) h = absurd (true≢false (sym h))

pub told_fits : (K : Shapes) (k : Key) → FitsKey K k → FitsObject K (told_key k)
told_fits K (key.Name n) h = tt
told_fits K (key.Integer n) h = tt
told_fits K (key.Real r) h = tt
told_fits K (key.Boolean b) h = tt
told_fits K (key.Operator n) h = tt
told_fits K (key.Dict c) h = (h.0, h.1, dict_told c h.0 h.2)
told_fits K (key.Array part packed) h = (h.0, h.1, array_told part packed h.0 h.2)
told_fits K (key.File section layer) h = file_fits K (layer == 0) section layer
told_fits K (key.Save q) h = tt
told_fits K (key.FontId c) h = tt
told_fits K key.Mark h = tt

-- ---- places that are left

module _ (K : Shapes) (at : ℕ) where
  left_at : (b part : Interval) (t : Bool) → nat_lt at b.len ≡ t → cond t (Some b) None ≡ Some part → (b ≡ part) × (at < b.len)
  left_at b part true l e = (cc, grind arith)
  left_at b part false l e = cc

  items_of_it : (x : Object) (b part : Interval) (packed : Bool) → FitsObject K (record x { kind = kind.Array b packed }) → (b ≡ part) × (at < b.len) → HasItems K part × (at < part.len)
  items_of_it x b part packed h p = subst (λ c. HasItems K c × (at < c.len)) p.0 (array_fits K (record x { kind = kind.Array b packed } ∷ []) 0 b (h, tt) refl, p.1)

  pub items_left : (x : Object) (k : Kind) (part : Interval) → FitsObject K (record x { kind = k }) → place_left (items_in k) at ≡ Some part → HasItems K part × (at < part.len)
  items_left x (kind.Array b packed) part h e = items_of_it x b part packed h (left_at b part (nat_lt at b.len) refl e)
  items_left x (kind.Str b) part h e = cc
  items_left x (kind.Integer n) part h e = cc
  items_left x (kind.Real n) part h e = cc
  items_left x (kind.Boolean b) part h e = cc
  items_left x kind.Null part h e = cc
  items_left x kind.Mark part h e = cc
  items_left x (kind.Name n) part h e = cc
  items_left x (kind.Operator n) part h e = cc
  items_left x (kind.Dict c) part h e = cc
  items_left x (kind.File n) part h e = cc
  items_left x (kind.Filter n m) part h e = cc
  items_left x (kind.Save q) part h e = cc
  items_left x (kind.FontId c) part h e = cc

  pub bytes_left : (x : Object) (k : Kind) (part : Interval) → FitsObject K (record x { kind = k }) → place_left (bytes_in k) at ≡ Some part → HasBytes K part × (at < part.len)
  bytes_left x (kind.Str b) part h e =
      let p = left_at b part (nat_lt at b.len) refl e in
      subst (λ c. HasBytes K c × (at < c.len)) p.0 (string_kind K (kind.Str b) b h refl, p.1)
  bytes_left x (kind.Array b packed) part h e = cc
  bytes_left x (kind.Integer n) part h e = cc
  bytes_left x (kind.Real n) part h e = cc
  bytes_left x (kind.Boolean b) part h e = cc
  bytes_left x kind.Null part h e = cc
  bytes_left x kind.Mark part h e = cc
  bytes_left x (kind.Name n) part h e = cc
  bytes_left x (kind.Operator n) part h e = cc
  bytes_left x (kind.Dict c) part h e = cc
  bytes_left x (kind.File n) part h e = cc
  bytes_left x (kind.Filter n m) part h e = cc
  bytes_left x (kind.Save q) part h e = cc
  bytes_left x (kind.FontId c) part h e = cc
