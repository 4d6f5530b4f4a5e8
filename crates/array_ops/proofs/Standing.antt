-- What parts that are operands stand for.
use Rattle.std.proofs.Common.{◌≡◌, ℕ, zero, suc, ◌+◌, ◌^◌, ◌<◌, ◌≤◌, ℤ, Bool, true, false, ◌&&◌, List, [], ◌∷◌, Option, Some, None, Result, Ok, Err, refl, ap, ◌∙◌, arith}
use Rattle.std.specs.FinMap.{get}
use Rattle.ps_objects.specs.Operands.{integer_at, array_of, array_at, string_of, string_at}
use Rattle.ps_names.specs.declared.error_name.ErrorName.{ErrorName}
use Rattle.ps_objects.specs.declared.object.Kind.{Kind}
use Rattle.ps_objects.specs.declared.object.Kind.TheVariants as kind
use Rattle.ps_objects.specs.declared.object.Object.{Object}
use Rattle.ps_objects.specs.declared.objects.Interval.{Interval}
use Rattle.ps_objects.specs.declared.place.Shape.{Shape}
use Rattle.ps_objects.specs.declared.place.Shape.TheVariants as shape
use Rattle.ps_kinds.specs.declared.state.State.{State}
use Rattle.ps_memory.specs.Memory.{Memory, shape_at}
use Rattle.ps_meaning.specs.Fits.{lies_within}
use Rattle.ps_meaning.specs.Ready.{Ready}
use Rattle.vm_mem.specs.Conditions.{page_is_here}
use Rattle.ps_operator.specs.Standing.{has_items, has_bytes, is_array, is_string}
use Rattle.ps_operator.proofs.Storing.{space_within}
use Rattle.ps_operator.proofs.Standing.{array_stands, string_stands}
use Rattle.array_ops.specs.Parts.{part_of, part_at, interval_of, is_part}
use Rattle.array_ops.specs.Intervals.{move_of, room_of, room_at}
use Rattle.array_ops.specs.declared.intervals.Move.TheVariants as move
use Rattle.array_ops.specs.declared.parts.Part.{Part}
use Rattle.array_ops.specs.declared.parts.Part.TheVariants as part

-- ---- a part is an array, or a string

items_are : (k : Kind) (a : Interval) → part_of k ≡ Ok (part.Items a) → array_of k ≡ Ok a
items_are (kind.Array b packed) a e = let p : b ≡ a = cc in ap Ok p
items_are (kind.Str b) a e = cc
items_are _ a e = cc

pub as_array : (xs : List Object) (i : ℕ) (a : Interval) → part_at i xs ≡ Ok (part.Items a) → array_at i xs ≡ Ok a
as_array [] i a e = cc
as_array (y ∷ ys) zero a e = items_are y.kind a e
as_array (y ∷ ys) (suc i) a e = as_array ys i a e

bytes_are : (k : Kind) (a : Interval) → part_of k ≡ Ok (part.Bytes a) → string_of k ≡ Ok a
bytes_are (kind.Str b) a e = let p : b ≡ a = cc in ap Ok p
bytes_are (kind.Array b packed) a e = cc
bytes_are _ a e = cc

pub as_string : (xs : List Object) (i : ℕ) (a : Interval) → part_at i xs ≡ Ok (part.Bytes a) → string_at i xs ≡ Ok a
as_string [] i a e = cc
as_string (y ∷ ys) zero a e = bytes_are y.kind a e
as_string (y ∷ ys) (suc i) a e = as_string ys i a e

-- ---- where intervals that stand end

second : (a b : Bool) → (a && b) ≡ true → b ≡ true
second true b h = h
second false b h = cc

first : (a b : Bool) → (a && b) ≡ true → a ≡ true
first true b h = refl
first false b h = cc

ends_low : (start len n : ℕ) → lies_within start len n ≡ true → start + len < 2 ^ 32
ends_low start len n h = grind arith

items_end : (start len : ℕ) (o : Option Shape) → has_items start len o ≡ true → start + len < 2 ^ 32
items_end start len (Some (shape.Array n)) h = ends_low start len n h
items_end start len (Some (shape.Str n)) h = cc
items_end start len (Some (shape.Dict n)) h = cc
items_end start len None h = cc

bytes_end : (start len : ℕ) (o : Option Shape) (bs : Option (List ℕ)) → has_bytes start len o bs ≡ true → start + len < 2 ^ 32
bytes_end start len (Some (shape.Str n)) (Some bs) h = ends_low start len n (first (lies_within start len n) _ h)
bytes_end start len (Some (shape.Str n)) None h = cc
bytes_end start len (Some (shape.Array n)) bs h = cc
bytes_end start len (Some (shape.Dict n)) bs h = cc
bytes_end start len None bs h = cc

pub array_ends : (M : Memory) (a : Interval) → is_array M a ≡ true → a.start + a.len < 2 ^ 32
unfolding is_array
array_ends M a h = items_end a.start a.len (shape_at M a.cell) (second (page_is_here M) _ h)

pub string_ends : (M : Memory) (a : Interval) → is_string M a ≡ true → a.start + a.len < 2 ^ 32
unfolding is_string
string_ends M a h = bytes_end a.start a.len (shape_at M a.cell) (get M.strings a.cell) (second (page_is_here M) _ h)

ends : (M : Memory) (p : Part) → is_part M p ≡ true → (interval_of p).start + (interval_of p).len < 2 ^ 32
ends M (part.Items a) h = array_ends M a h
ends M (part.Bytes a) h = string_ends M a h

-- ---- parts that move

moved_items : (p q : Part) (t o : Interval) → move_of p q ≡ Ok (move.Items t o) → (p ≡ part.Items t) × (q ≡ part.Items o)
moved_items (part.Items a) (part.Items b) t o e =
    let x : a ≡ t = cc in
    let y : b ≡ o = cc in
    (ap part.Items x, ap part.Items y)
moved_items (part.Items a) (part.Bytes b) t o e = cc
moved_items (part.Bytes a) (part.Items b) t o e = cc
moved_items (part.Bytes a) (part.Bytes b) t o e = cc

moved_bytes : (p q : Part) (t o : Interval) → move_of p q ≡ Ok (move.Bytes t o) → (p ≡ part.Bytes t) × (q ≡ part.Bytes o)
moved_bytes (part.Bytes a) (part.Bytes b) t o e =
    let x : a ≡ t = cc in
    let y : b ≡ o = cc in
    (ap part.Bytes x, ap part.Bytes y)
moved_bytes (part.Items a) (part.Bytes b) t o e = cc
moved_bytes (part.Bytes a) (part.Items b) t o e = cc
moved_bytes (part.Items a) (part.Items b) t o e = cc

-- ---- parts that are operands of a sound state

module _ (s : State) (M : Memory) (r : Ready s M) where
  pub part_stands : (i : ℕ) (p : Part) → part_at i s.regs.operands ≡ Ok p → is_part M p ≡ true
  part_stands i (part.Items a) e = array_stands s M r i a (as_array s.regs.operands i a e)
  part_stands i (part.Bytes a) e = string_stands s M r i a (as_string s.regs.operands i a e)

  pub items_stand : (i : ℕ) (a : Interval) → part_at i s.regs.operands ≡ Ok (part.Items a) → is_array M a ≡ true
  items_stand i a e = part_stands i (part.Items a) e

  pub bytes_stand : (i : ℕ) (a : Interval) → part_at i s.regs.operands ≡ Ok (part.Bytes a) → is_string M a ≡ true
  bytes_stand i a e = part_stands i (part.Bytes a) e

  pub part_ends : (i : ℕ) (p : Part) → part_at i s.regs.operands ≡ Ok p → (interval_of p).start + (interval_of p).len < 2 ^ 32
  part_ends i p e = ends M p (part_stands i p e)

  -- ---- both parts of a move

  pub target_items : (i : ℕ) (p q : Part) (t o : Interval) → part_at i s.regs.operands ≡ Ok p → move_of p q ≡ Ok (move.Items t o) → is_array M t ≡ true
  target_items i p q t o e m = items_stand i t (e ∙ ap Ok (moved_items p q t o m).0)

  pub source_items : (i : ℕ) (p q : Part) (t o : Interval) → part_at i s.regs.operands ≡ Ok q → move_of p q ≡ Ok (move.Items t o) → is_array M o ≡ true
  source_items i p q t o e m = items_stand i o (e ∙ ap Ok (moved_items p q t o m).1)

  pub target_bytes : (i : ℕ) (p q : Part) (t o : Interval) → part_at i s.regs.operands ≡ Ok p → move_of p q ≡ Ok (move.Bytes t o) → is_string M t ≡ true
  target_bytes i p q t o e m = bytes_stand i t (e ∙ ap Ok (moved_bytes p q t o m).0)

  pub source_bytes : (i : ℕ) (p q : Part) (t o : Interval) → part_at i s.regs.operands ≡ Ok q → move_of p q ≡ Ok (move.Bytes t o) → is_string M o ≡ true
  source_bytes i p q t o e m = bytes_stand i o (e ∙ ap Ok (moved_bytes p q t o m).1)

-- ---- room

room_by : (target source : Interval) (r : Result ℤ ErrorName) (at : ℕ) → room_of target source r ≡ Ok at → at + source.len ≤ target.len
room_by target source (Ok i) at e = space_within target.len source.len i at e
room_by target source (Err x) at e = cc

pub room_within : (depth : ℕ) (target source : Interval) (xs : List Object) (at : ℕ) → room_at depth target source xs ≡ Ok at → at + source.len ≤ target.len
room_within depth target source xs at e = room_by target source (integer_at depth xs) at e
