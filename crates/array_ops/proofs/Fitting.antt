-- What is read, looked at and cut out of a state that fits, fits.
use Rattle.std.proofs.Common.{◌≡◌, ℕ, zero, suc, ◌+◌, ◌<◌, ◌≤◌, Bool, true, false, not, ◌&&◌, ◌||◌, cond, nat_eq, nat_lt, ℤ, pos, negsuc, List, [], ◌∷◌, ◌++◌, take, drop, length, reverse, Option, Some, None, Result, Ok, Err, refl, sym, ap, subst, arith}
use Rattle.std.proofs.lemmas.List.{length-append, length-reverse, reverse-append}
use Rattle.std.specs.List.{AllByRecursion}
use Rattle.ps_names.specs.declared.error_name.ErrorName.{ErrorName}
use Rattle.ps_names.specs.declared.error_name.ErrorName.TheVariants.{InvalidAccess, RangeCheck}
use Rattle.ps_objects.specs.Object.{cell_named}
use Rattle.ps_objects.specs.Operands.{object_at}
use Rattle.ps_objects.specs.declared.cell.Cell.{Cell}
use Rattle.ps_objects.specs.declared.object.Kind.{Kind}
use Rattle.ps_objects.specs.declared.object.Kind.TheVariants as kind
use Rattle.ps_objects.specs.declared.object.Object.{Object}
use Rattle.ps_objects.specs.declared.objects.Interval.{Interval}
use Rattle.ps_objects.specs.declared.place.Loc.TheVariants as loc
use Rattle.ps_objects.specs.declared.place.Shape.{Shape}
use Rattle.ps_objects.specs.declared.place.Shape.TheVariants as shape
use Rattle.ps_objects.specs.declared.place.Value.{Value}
use Rattle.ps_objects.specs.declared.place.Value.TheVariants as value
use Rattle.ps_kinds.specs.declared.frame.Frame.{Frame}
use Rattle.ps_kinds.specs.declared.state.State.{State}
use Rattle.ps_memory.specs.Memory.{is_global}
use Rattle.ps_memory.specs.Tree.{Application}
use Rattle.ps_meaning.specs.Fits.{Shapes, lies_within, takes, FitsCell, FitsObject, key_is_shared, value_is_shared, is_system_dict}
use Rattle.ps_meaning.specs.Sound.{World, IsAnswer}
use Rattle.ps_operator.specs.Budgets.{is_local, storable}
use Rattle.ps_operator.specs.Lawful.{HasItems, HasBytes, Keeps, Lawfully, Looks}
use Rattle.ps_operator.specs.Looks.{object_then, byte_then, look_item, look_byte}
use Rattle.ps_operator.specs.Registers.{any_of}
use Rattle.ps_operator.specs.Tree.{Ask}
use Rattle.ps_operator.proofs.Fitting.{Fit, drop_fits, array_fits, string_fits}
use Rattle.ps_operator.proofs.Seeking.{Seeks, found_seeks, read_seeks}
use Rattle.array_ops.specs.Intervals.{storable_from}
use Rattle.array_ops.specs.Making.{names_local, all_storable, taken}
use Rattle.array_ops.specs.Members.{byte_of}
use Rattle.array_ops.specs.Parts.{part_of, part_at, interval_of, piece, over, over_of}
use Rattle.array_ops.specs.Spreading.{pushed_from}
use Rattle.array_ops.specs.declared.parts.Part.{Part}
use Rattle.array_ops.specs.declared.parts.Part.TheVariants as part
use Rattle.array_ops.proofs.Standing.{as_array, as_string}

-- ---- parts

-- it lies within an array, or a string, that stands
abbrev pub FitsPart : Shapes → Part → Type 0
FitsPart K (part.Items a) = HasItems K a
FitsPart K (part.Bytes a) = HasBytes K a

pub part_fits : (K : Shapes) (xs : List Object) (i : ℕ) (p : Part) → Fit K xs → part_at i xs ≡ Ok p → FitsPart K p
part_fits K xs i (part.Items a) h e = array_fits K xs i a h (as_array xs i a e)
part_fits K xs i (part.Bytes a) h e = string_fits K xs i a h (as_string xs i a e)

inside : (start len size from n : ℕ) → lies_within start len size ≡ true → from + n ≤ len → lies_within (start + from) n size ≡ true
inside start len size from n h l = grind arith

cut_takes : (a : Interval) (packed : Bool) (sh : Shape) (at n : ℕ) → at + n ≤ a.len → takes (kind.Array a packed) sh ≡ true → takes (kind.Array (piece a at n) packed) sh ≡ true
cut_takes a packed (shape.Array m) at n l h = inside a.start a.len m at n h l
cut_takes a packed (shape.Str m) at n l h = h
cut_takes a packed (shape.Dict m) at n l h = h

cut_takes_bytes : (a : Interval) (sh : Shape) (at n : ℕ) → at + n ≤ a.len → takes (kind.Str a) sh ≡ true → takes (kind.Str (piece a at n)) sh ≡ true
cut_takes_bytes a (shape.Str m) at n l h = inside a.start a.len m at n h l
cut_takes_bytes a (shape.Array m) at n l h = h
cut_takes_bytes a (shape.Dict m) at n l h = h

module _ (K : Shapes) (at n : ℕ) where
  cut_kind : (k : Kind) (p : Part) → part_of k ≡ Ok p → at + n ≤ (interval_of p).len → FitsCell K (cell_named k) (takes k)
      → FitsCell K (cell_named (over (piece (interval_of p) at n) k)) (takes (over (piece (interval_of p) at n) k))
  cut_kind (kind.Array a packed) p e l h =
      let q : part.Items a ≡ p = cc in
      subst (λ p. FitsCell K (cell_named (over (piece (interval_of p) at n) (kind.Array a packed))) (takes (over (piece (interval_of p) at n) (kind.Array a packed)))) q
      (h.0, h.1, cut_takes a packed h.0 at n (subst (λ p. at + n ≤ (interval_of p).len) (sym q) l) h.2)
  cut_kind (kind.Str a) p e l h =
      let q : part.Bytes a ≡ p = cc in
      subst (λ p. FitsCell K (cell_named (over (piece (interval_of p) at n) (kind.Str a))) (takes (over (piece (interval_of p) at n) (kind.Str a)))) q
      (h.0, h.1, cut_takes_bytes a h.0 at n (subst (λ p. at + n ≤ (interval_of p).len) (sym q) l) h.2)
  cut_kind _ p e l h = cc

  pub cut_fits : (xs : List Object) (i : ℕ) (p : Part) (x : Object) → Fit K xs → part_at i xs ≡ Ok p → object_at i xs ≡ Ok x → at + n ≤ (interval_of p).len → FitsObject K (over_of (piece (interval_of p) at n) x)
  cut_fits [] i p x h e q l = cc
  cut_fits (y ∷ ys) zero p x h e q l =
      let r : y ≡ x = cc in
      subst (λ (x : Object). FitsObject K (over_of (piece (interval_of p) at n) x)) r (cut_kind y.kind p e l h.0)
  cut_fits (y ∷ ys) (suc i) p x h e q l = cut_fits ys i p x h.1 e q l

-- ---- lists

pub take_fits : (K : Shapes) (n : ℕ) (xs : List Object) → Fit K xs → Fit K (take n xs)
take_fits K zero xs h = tt
take_fits K (suc n) [] h = tt
take_fits K (suc n) (x ∷ xs) h = (h.0, take_fits K n xs h.1)

pub append_fits : (K : Shapes) (xs ys : List Object) → Fit K xs → Fit K ys → Fit K (xs ++ ys)
append_fits K [] ys h g = g
append_fits K (x ∷ xs) ys h g = (h.0, append_fits K xs ys h.1 g)

all_after : {A : Type 0} (P : A → Type 0) (xs : List A) (y : A) → AllByRecursion P xs → P y → AllByRecursion P (xs ++ y ∷ [])
all_after P [] y h g = (g, tt)
all_after P (x ∷ xs) y h g = (h.0, all_after P xs y h.1 g)

all_turned : {A : Type 0} (P : A → Type 0) (xs : List A) → AllByRecursion P xs → AllByRecursion P (reverse xs)
all_turned P [] h = tt
all_turned P (x ∷ xs) h = subst (AllByRecursion P) (sym (reverse-append (x ∷ []) xs)) (all_after P (reverse xs) x (all_turned P xs h.1) h.0)

pub taken_fits : (K : Shapes) (below n : ℕ) (xs : List Object) → Fit K xs → Fit K (taken below n xs)
taken_fits K below n xs h = all_turned (FitsObject K) (take n (drop below xs)) (take_fits K n (drop below xs) (drop_fits K below xs h))

front_at_most : (n : ℕ) (xs : List Object) → length (take n xs) ≤ n
front_at_most zero xs = omega arith
front_at_most (suc n) [] = omega arith
front_at_most (suc n) (x ∷ xs) = omega (arith, front_at_most n xs)

pub taken_within : (below n : ℕ) (xs : List Object) → 0 + length (taken below n xs) ≤ n
taken_within below n xs =
    let p : length (taken below n xs) ≡ length (take n (drop below xs)) = length-reverse (take n (drop below xs)) in
    let q : length (take n (drop below xs)) ≤ n = front_at_most n (drop below xs) in
    omega (arith, p, q)

-- ---- what may lie in a cell

local_by : (g l : Bool) → cond {A = Result (Unit {0}) ErrorName} (g && l) (Err InvalidAccess) (Ok tt) ≡ Ok tt → g ≡ true → l ≡ false
local_by true true e h = cc
local_by true false e h = refl
local_by false l e h = cc

none_first : (a b : Bool) → a || b ≡ false → a ≡ false
none_first true b e = cc
none_first false b e = refl

none_second : (a b : Bool) → a || b ≡ false → b ≡ false
none_second true b e = cc
none_second false b e = e

not_local : (o : Option Cell) → is_local o ≡ false → key_is_shared o ≡ true
not_local None h = refl
not_local (Some c) h = go (is_global c) h
  where
    go : (b : Bool) → not b ≡ false → b ≡ true
    go true h = refl
    go false h = sym h

shared_value : (d : Cell) (o : Option Cell) → key_is_shared o ≡ true → value_is_shared d o ≡ true
shared_value d None h = refl
shared_value d (Some c) h = ap (λ b. b || (is_system_dict d && nat_eq c.section 0)) h

-- what an object names is shared, where the cell is global
abbrev pub IsShared : Cell → Object → Type 0
IsShared c x = is_global c ≡ true → value_is_shared c (cell_named x.kind) ≡ true

pub storable_shared : (c : Cell) (x : Object) → storable c x.kind ≡ Ok tt → IsShared c x
storable_shared c x e g = shared_value c (cell_named x.kind) (not_local (cell_named x.kind) (local_by (is_global c) (is_local (cell_named x.kind)) e g))

none_local : (c : Cell) (xs : List Object) → (is_global c ≡ true → any_of names_local xs ≡ false) → AllByRecursion (IsShared c) xs
none_local c [] h = tt
none_local c (x ∷ xs) h = (
  λ g. shared_value c (cell_named x.kind) (not_local (cell_named x.kind) (none_first (names_local x) (any_of names_local xs) (h g))),
  none_local c xs (λ g. none_second (names_local x) (any_of names_local xs) (h g)),
)

pub taken_shared : (c : Cell) (below n : ℕ) (xs : List Object) → all_storable c (take n (drop below xs)) ≡ Ok tt → AllByRecursion (IsShared c) (taken below n xs)
taken_shared c below n xs e = all_turned (IsShared c) (take n (drop below xs)) (none_local c (take n (drop below xs)) (local_by (is_global c) (any_of names_local (take n (drop below xs))) e))

-- ---- single looks

within : (start len n i : ℕ) → lies_within start len n ≡ true → i < len → start + i < n
within start len n i h l = grind arith

pub item_there : (K : Shapes) (a : Interval) (i : ℕ) → HasItems K a → i < a.len → (n : ℕ) × (K a.cell ≡ Some (shape.Array n)) × (a.start + i < n)
item_there K a i h l = (h.size, h.stands, within a.start a.len h.size i h.within l)

pub byte_there : (K : Shapes) (a : Interval) (i : ℕ) → HasBytes K a → i < a.len → (n : ℕ) × (K a.cell ≡ Some (shape.Str n)) × (a.start + i < n)
byte_there K a i h l = (h.size, h.stands, within a.start a.len h.size i h.within l)

pub item_seeks : {A : Type 0} {W : World} {P : A → Type 0} {a : Interval} {i : ℕ} {k : Object → Application A} → HasItems W.shapes a → i < a.len
    → ((x : Object) → FitsObject W.shapes x → Seeks W P (k x)) → Seeks W P (look_item a i k)
item_seeks {W = W} {P = P} {a = a} {i = i} {k = k} h l g = record { looks = (item_there W.shapes a i h l, go) }
  where
    go : (v : Value) → IsAnswer W (loc.Item a.cell (a.start + i)) v → Looks (object_then k v) W P
    go (value.Object x) e = (g x e).looks
    go value.Absent e = absurd e
    go (value.Byte n) e = absurd e
    go (value.Access a) e = absurd e
    go (value.Keys ks) e = absurd e
    go (value.Rand n) e = absurd e
    go (value.Paper p) e = absurd e

pub byte_keeps : {text : List ℕ} {most : ℕ} {below : List Frame} {s : State} {W : World} {a : Interval} {k : ℕ → Ask} (i : ℕ) → HasBytes W.shapes a → i < a.len
    → ((b : ℕ) → Keeps text most below (k b) s W) → Keeps text most below (look_byte a i k) s W
byte_keeps {text = text} {most = most} {below = below} {s = s} {W = W} {a = a} {k = k} i h l g = record { lawful = (byte_there W.shapes a i h l, go) }
  where
    go : (v : Value) → IsAnswer W (loc.Byte a.cell (a.start + i)) v → Lawfully text most below (byte_then k v) s W
    go (value.Byte n) e = (g n).lawful
    go value.Absent e = absurd e
    go (value.Object x) e = absurd e
    go (value.Access a) e = absurd e
    go (value.Keys ks) e = absurd e
    go (value.Rand n) e = absurd e
    go (value.Paper p) e = absurd e

small_by : (n b : ℕ) (t : Bool) → nat_lt n 256 ≡ t → cond {A = Result ℕ ErrorName} t (Ok n) (Err RangeCheck) ≡ Ok b → nat_lt b 256 ≡ true
small_by n b true p e = let q : n ≡ b = cc in subst (λ b. nat_lt b 256 ≡ true) q p
small_by n b false p e = cc

-- a byte that was read is one
pub byte_small : (n : ℤ) (b : ℕ) → byte_of n ≡ Ok b → nat_lt b 256 ≡ true
byte_small (pos n) b e = small_by n b (nat_lt n 256) refl e
byte_small (negsuc n) b e = cc

-- ---- arrays that are looked at whole

left_one : (at n len : ℕ) → at + suc n ≡ len → at < len
left_one at n len l = omega (arith, l)

next_left : (at n len : ℕ) → at + suc n ≡ len → at + 1 + n ≡ len
next_left at n len l = omega (arith, l)

-- n items that may lie in a cell
pub record GoIn (K : Shapes) (c : Cell) (n : ℕ) (xs : List Object) : Type 0 where
  pub fits : Fit K xs
  pub shared : AllByRecursion (IsShared c) xs
  pub count : length xs ≡ n

module _ (W : World) (c : Cell) (a : Interval) (h : HasItems W.shapes a) where
  alone : (at : ℕ) (seen : List Object) → at + 0 ≡ a.len → length seen ≡ at → length seen ≡ a.len
  alone at seen l e = omega (arith, l, e)

  counted : (at : ℕ) (seen : List Object) (x : Object) → length seen ≡ at → length (seen ++ x ∷ []) ≡ at + 1
  counted at seen x e = let p : length (seen ++ x ∷ []) ≡ length seen + 1 = length-append seen (x ∷ []) in omega (arith, p, e)

  pub storable_seeks : (at n : ℕ) (seen : List Object) → at + n ≡ a.len → GoIn W.shapes c at seen → Seeks W (GoIn W.shapes c a.len) (storable_from c a at n seen)
  storable_seeks at zero seen l g = found_seeks (GoIn W.shapes c a.len) seen (record { fits = g.fits; shared = g.shared; count = alone at seen l g.count })
  storable_seeks at (suc n) seen l g =
      item_seeks h (left_one at n a.len l) (λ x f.
      read_seeks (storable c x.kind) (λ _ e.
      storable_seeks (at + 1) n (seen ++ x ∷ []) (next_left at n a.len l) (record {
        fits = all_after (FitsObject W.shapes) seen x g.fits f;
        shared = all_after (IsShared c) seen x g.shared (storable_shared c x e);
        count = counted at seen x g.count;
      })))

pub pushed_seeks : (W : World) (a : Interval) → HasItems W.shapes a → (at n : ℕ) (xs : List Object) → at + n ≡ a.len → Fit W.shapes xs → Seeks W (Fit W.shapes) (pushed_from a at n xs)
pushed_seeks W a h at zero xs l g = found_seeks (Fit W.shapes) xs g
pushed_seeks W a h at (suc n) xs l g =
    item_seeks h (left_one at n a.len l) (λ x f.
    pushed_seeks W a h (at + 1) n (x ∷ xs) (next_left at n a.len l) (f, g))
