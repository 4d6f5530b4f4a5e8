-- Strings that are operands end below 2^32, and those that hold a plain text stand.
use Rattle.std.proofs.Common.{◌≡◌, ℕ, ◌+◌, ◌^◌, ◌<◌, Bool, true, false, ◌&&◌, List, Option, Some, None, Ok, refl, arith}
use Rattle.std.specs.FinMap.{get}
use Rattle.ps_objects.specs.Operands.{object_at, string_at}
use Rattle.ps_objects.specs.declared.object.Kind.{Kind}
use Rattle.ps_objects.specs.declared.object.Kind.TheVariants as kind
use Rattle.ps_objects.specs.declared.object.Object.{Object}
use Rattle.ps_objects.specs.declared.objects.Interval.{Interval}
use Rattle.ps_objects.specs.declared.place.Shape.{Shape}
use Rattle.ps_objects.specs.declared.place.Shape.TheVariants as shape
use Rattle.ps_kinds.specs.declared.state.State.{State}
use Rattle.ps_memory.specs.Memory.{Memory, shape_at}
use Rattle.ps_meaning.specs.Fits.{lies_within}
use Rattle.ps_meaning.specs.Ready.{Ready}
use Rattle.vm_mem.specs.Conditions.{page_is_here}
use Rattle.ps_operator.specs.Standing.{has_bytes, is_named, is_string}
use Rattle.ps_operator.proofs.Standing.{string_stands, object_stands}
use Rattle.text_ops.specs.Plain.{plain_form, stands}

second : (a b : Bool) → (a && b) ≡ true → b ≡ true
second true b h = h
second false b h = cc

first : (a b : Bool) → (a && b) ≡ true → a ≡ true
first true b h = refl
first false b h = cc

ends_low : (start len n : ℕ) → lies_within start len n ≡ true → start + len < 2 ^ 32
ends_low start len n h = grind arith

bytes_end : (start len : ℕ) (o : Option Shape) (bs : Option (List ℕ)) → has_bytes start len o bs ≡ true → start + len < 2 ^ 32
bytes_end start len (Some (shape.Str n)) (Some bs) h = ends_low start len n (first (lies_within start len n) _ h)
bytes_end start len (Some (shape.Str n)) None h = cc
bytes_end start len (Some (shape.Array n)) bs h = cc
bytes_end start len (Some (shape.Dict n)) bs h = cc
bytes_end start len None bs h = cc

interval_ends : (M : Memory) (a : Interval) → is_string M a ≡ true → a.start + a.len < 2 ^ 32
unfolding is_string
interval_ends M a h = bytes_end a.start a.len (shape_at M a.cell) (get M.strings a.cell) (second (page_is_here M) _ h)

plain_held : (M : Memory) (k : Kind) → is_named M k ≡ true → stands M (plain_form k) ≡ true
plain_held M (kind.Str part) h = h
plain_held M _ h = refl

module _ (s : State) (M : Memory) (r : Ready s M) where
  pub string_ends : (i : ℕ) (a : Interval) → string_at i s.regs.operands ≡ Ok a → a.start + a.len < 2 ^ 32
  string_ends i a e = interval_ends M a (string_stands s M r i a e)

  pub plain_stands : (i : ℕ) (x : Object) → object_at i s.regs.operands ≡ Ok x → stands M (plain_form x.kind) ≡ true
  plain_stands i x e = plain_held M x.kind (object_stands s M r i x e)
