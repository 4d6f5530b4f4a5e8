-- Strings that are filled from a file.
use Rattle.std.specs.Prelude.{ℕ, ◌+◌, Bool, true, ◌&&◌, nat_eq, nat_lt, cond, if◌then◌else◌, List, [], ◌∷◌, drop, length, Result, Ok, Err}
use Rattle.ps_names.specs.declared.error_name.ErrorName.{ErrorName}
use Rattle.ps_names.specs.declared.error_name.ErrorName.TheVariants.{RangeCheck, Undefined}
use Rattle.ps_objects.specs.Operands.{needed, object_at, string_at, file_at, readable_at, writable_at}
use Rattle.ps_objects.specs.declared.object.Kind.TheVariants as kind
use Rattle.ps_objects.specs.declared.object.Object.{Object}
use Rattle.ps_kinds.specs.declared.state.State.{State}
use Rattle.ps_memory.specs.Tree.{done, fail}
use Rattle.ps_operator.specs.Tree.{Ask}
use Rattle.ps_operator.specs.Registers.{ops, literal, quiet}
use Rattle.ps_operator.specs.Storing.{byte_stores}
use Rattle.file_ops.specs.Files.{own, moved}
use Rattle.file_ops.specs.declared.parts.Whole.{Whole}

-- goes on with what was read, unless it was refused
abbrev pub and_then : {A B : Type 0} → Result A ErrorName → (A → Result B ErrorName) → Result B ErrorName
and_then (Ok x) k = k x
and_then (Err e) k = Err e

-- The string that is filled, and the file below it: that both are of their types, that the string may be written and the file be read, and
-- that the file is the section's own.
abbrev pub target_of : State → Result Whole ErrorName
target_of s =
    and_then (needed 2 (ops s)) (λ _.
    and_then (string_at 0 (ops s)) (λ a.
    and_then (file_at 1 (ops s)) (λ f.
    and_then (object_at 0 (ops s)) (λ x.
    and_then (writable_at 0 (ops s)) (λ _.
    and_then (readable_at 1 (ops s)) (λ _.
    and_then (own s f) (λ _.
    Ok (record { interval = a; exec = x.exec; access = x.access }))))))))

-- an empty string is refused
abbrev pub some_room : ℕ → Result (Unit {0}) ErrorName
some_room len = if nat_eq len 0 then Err RangeCheck else Ok tt

-- n bytes of a string from a place on, with the string's attribute and access
abbrev pub piece : Whole → ℕ → ℕ → Object
piece t from n = record {
  kind = kind.Str (record { cell = t.interval.cell; start = t.interval.start + from; len = n });
  exec = t.exec;
  access = t.access;
}

-- each is a byte, as those of a text always are
unfoldable pub are_bytes : List ℕ → Bool
are_bytes [] = true
are_bytes (b ∷ bs) = nat_lt b 256 && are_bytes bs

-- the front that was filled, and whether all was read that was asked for, in the place of the string and the file
abbrev pub told : Whole → ℕ → Bool → List Object → List Object
told t n all xs = literal (kind.Boolean all) ∷ piece t 0 n ∷ drop 2 xs

-- the bytes stand at the front of the string, one by one, and the text goes on at a place
abbrev pub fills : State → Whole → List ℕ → Bool → ℕ → Ask
fills s t bs all place = cond (are_bytes bs)
    (done (byte_stores t.interval 0 bs) (quiet (moved s place (told t (length bs) all (ops s)))))
    (fail Undefined)
