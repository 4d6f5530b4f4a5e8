-- The string that is filled is the newest operand, and stands.
use Rattle.std.proofs.Common.{◌≡◌, ℕ, true, List, Result, Ok, Err, ap}
use Rattle.ps_names.specs.declared.error_name.ErrorName.{ErrorName}
use Rattle.ps_objects.specs.Operands.{needed, object_at, string_at, file_at, readable_at, writable_at}
use Rattle.ps_objects.specs.declared.object.Object.{Object}
use Rattle.ps_objects.specs.declared.objects.FileName.{FileName}
use Rattle.ps_objects.specs.declared.objects.Interval.{Interval}
use Rattle.ps_kinds.specs.declared.state.State.{State}
use Rattle.ps_memory.specs.Memory.{Memory}
use Rattle.ps_meaning.specs.Ready.{ReadyIn}
use Rattle.ps_operator.specs.Registers.{ops}
use Rattle.ps_operator.specs.Standing.{is_string}
use Rattle.ps_operator.proofs.Standing.{string_stands}
use Rattle.file_ops.specs.Files.{own}
use Rattle.file_ops.specs.Parts.{and_then, target_of}
use Rattle.file_ops.specs.declared.parts.Whole.{Whole}

abbrev Checked : Type 0
Checked = Result (Unit {0}) ErrorName

abbrev SamePart : Result Interval ErrorName → Whole → Type 0
SamePart a t = a ≡ Ok t.interval

ends_at : (q : Checked) (a : Interval) (x : Object) (t : Whole) → and_then q (λ _. Ok (record { interval = a; exec = x.exec; access = x.access })) ≡ Ok t → SamePart (Ok a) t
ends_at (Ok u) a x t e = let p : Whole.interval (record { interval = a; exec = x.exec; access = x.access }) ≡ t.interval = cc in ap (λ (i : Interval). Ok i) p
ends_at (Err z) a x t e = cc

chosen : (n : Checked) (a : Result Interval ErrorName) (f : Result FileName ErrorName) (x : Result Object ErrorName) (w r : Checked) (o : FileName → Checked) (t : Whole)
    → and_then n (λ _. and_then a (λ a. and_then f (λ f. and_then x (λ x. and_then w (λ _. and_then r (λ _. and_then (o f) (λ _. Ok (record { interval = a; exec = x.exec; access = x.access })))))))) ≡ Ok t → SamePart a t
chosen (Ok n) (Ok a) (Ok f) (Ok x) (Ok w) (Ok r) o t e = ends_at (o f) a x t e
chosen (Ok n) (Ok a) (Ok f) (Ok x) (Ok w) (Err z) o t e = cc
chosen (Ok n) (Ok a) (Ok f) (Ok x) (Err z) r o t e = cc
chosen (Ok n) (Ok a) (Ok f) (Err z) w r o t e = cc
chosen (Ok n) (Ok a) (Err z) x w r o t e = cc
chosen (Ok n) (Err z) f x w r o t e = cc
chosen (Err z) a f x w r o t e = cc

pub target_string : (s : State) (t : Whole) → target_of s ≡ Ok t → string_at 0 (ops s) ≡ Ok t.interval
target_string s t e = chosen (needed 2 (ops s)) (string_at 0 (ops s)) (file_at 1 (ops s)) (object_at 0 (ops s)) (writable_at 0 (ops s)) (readable_at 1 (ops s)) (own s) t e

pub target_stands : (text : List ℕ) (s : State) (M : Memory) (t : Whole) → ReadyIn text s M → target_of s ≡ Ok t → is_string M t.interval ≡ true
target_stands text s M t r e = string_stands s M r.ready 0 t.interval (target_string s t e)
