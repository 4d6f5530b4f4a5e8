-- A string from which a token is read stands, and ends below 2^32.
use Rattle.std.proofs.Common.{◌≡◌, ℕ, ◌+◌, ◌^◌, ◌<◌, Bool, true, false, ◌&&◌, List, Option, Some, None, Ok, refl, subst, arith}
use Rattle.std.specs.FinMap.{get}
use Rattle.ps_objects.specs.Operands.{object_at}
use Rattle.ps_objects.specs.declared.object.Kind.{Kind}
use Rattle.ps_objects.specs.declared.object.Kind.TheVariants as kind
use Rattle.ps_objects.specs.declared.object.Object.{Object}
use Rattle.ps_objects.specs.declared.objects.Interval.{Interval}
use Rattle.ps_objects.specs.declared.place.Shape.{Shape}
use Rattle.ps_objects.specs.declared.place.Shape.TheVariants as shape
use Rattle.ps_kinds.specs.declared.state.State.{State}
use Rattle.ps_memory.specs.Memory.{Memory, shape_at}
use Rattle.ps_meaning.specs.Fits.{lies_within}
use Rattle.ps_meaning.specs.Ready.{ReadyIn}
use Rattle.vm_mem.specs.Conditions.{page_is_here}
use Rattle.ps_operator.specs.Registers.{ops}
use Rattle.ps_operator.specs.Standing.{has_bytes, is_named, is_string}
use Rattle.ps_operator.proofs.Standing.{object_stands}
use Rattle.file_ops.specs.Tokens.{source_kind, source_of, is_source}
use Rattle.file_ops.specs.declared.parts.Whole.{Whole}
use Rattle.file_ops.specs.declared.tokens.Source.{Source}
use Rattle.file_ops.specs.declared.tokens.Source.TheVariants as source

kind_stands : (M : Memory) (x : Object) (k : Kind) (src : Source) → is_named M k ≡ true → source_kind x k ≡ Ok src → is_source M src ≡ true
kind_stands M x (kind.Str part) src h e = let p : source.Held (record { interval = part; exec = x.exec; access = x.access }) ≡ src = cc in subst (λ t. is_source M t ≡ true) p h
kind_stands M x (kind.File n) src h e = let p : source.Read (record { section = n; layer = 0 }) ≡ src = cc in subst (λ t. is_source M t ≡ true) p refl
kind_stands M x (kind.Filter n m) src h e = let p : source.Read (record { section = n; layer = m }) ≡ src = cc in subst (λ t. is_source M t ≡ true) p refl
kind_stands M x _ src h e = cc

pub source_stands : (text : List ℕ) (s : State) (M : Memory) (x : Object) (src : Source) → ReadyIn text s M → object_at 0 (ops s) ≡ Ok x → source_of x ≡ Ok src → is_source M src ≡ true
source_stands text s M x src r e g = kind_stands M x x.kind src (object_stands s M r.ready 0 x e) g

pub held_stands : (text : List ℕ) (s : State) (M : Memory) (x : Object) (t : Whole) → ReadyIn text s M → object_at 0 (ops s) ≡ Ok x → source_of x ≡ Ok (source.Held t) → is_string M t.interval ≡ true
held_stands text s M x t r e g = source_stands text s M x (source.Held t) r e g

-- ---- where a string ends

first : (a b : Bool) → (a && b) ≡ true → a ≡ true
first true b h = refl
first false b h = cc

second : (a b : Bool) → (a && b) ≡ true → b ≡ true
second true b h = h
second false b h = cc

ends_low : (start len n : ℕ) → lies_within start len n ≡ true → start + len < 2 ^ 32
ends_low start len n h = grind arith

bytes_end : (start len : ℕ) (o : Option Shape) (bs : Option (List ℕ)) → has_bytes start len o bs ≡ true → start + len < 2 ^ 32
bytes_end start len (Some (shape.Str n)) (Some bs) h = ends_low start len n (first (lies_within start len n) _ h)
bytes_end start len (Some (shape.Str n)) None h = cc
bytes_end start len (Some (shape.Array n)) bs h = cc
bytes_end start len (Some (shape.Dict n)) bs h = cc
bytes_end start len None bs h = cc

pub string_ends : (M : Memory) (a : Interval) → is_string M a ≡ true → a.start + a.len < 2 ^ 32
unfolding is_string
string_ends M a h = bytes_end a.start a.len (shape_at M a.cell) (get M.strings a.cell) (second (page_is_here M) _ h)
