-- Parts of strings that are operands, and bytes that are stored at their fronts.
use Rattle.std.specs.Prelude.{ℕ, ◌+◌, ◌-◌, Bool, true, ◌&&◌, nat_lt, cond, if◌then◌else◌, List, [], ◌∷◌, length, Result, Ok, Err}
use Rattle.ps_names.specs.declared.error_name.ErrorName.{ErrorName}
use Rattle.ps_names.specs.declared.error_name.ErrorName.TheVariants.{RangeCheck, Undefined}
use Rattle.ps_objects.specs.declared.access.Access.{Access}
use Rattle.ps_objects.specs.declared.object.Kind.TheVariants as kind
use Rattle.ps_objects.specs.declared.object.Object.{Object}
use Rattle.ps_objects.specs.declared.objects.Interval.{Interval}
use Rattle.ps_kinds.specs.declared.state.State.{State}
use Rattle.ps_memory.specs.Tree.{done, fail}
use Rattle.ps_operator.specs.Tree.{Ask}
use Rattle.ps_operator.specs.Registers.{literal, with_ops, quiet}
use Rattle.ps_operator.specs.Storing.{byte_stores}

-- n bytes of a string from a place on, with the string's attribute and access
abbrev pub piece : Bool → Access → Interval → ℕ → ℕ → Object
piece exec access a from n = record {
  kind = kind.Str (record { cell = a.cell; start = a.start + from; len = n });
  exec = exec;
  access = access;
}

-- what stands behind a match of m bytes at a place, the match, what stands before it, and true
abbrev pub parted : Bool → Access → Interval → ℕ → ℕ → List Object → List Object
parted exec access a at m xs =
    literal (kind.Boolean true) ∷ piece exec access a 0 at ∷ piece exec access a at m
    ∷ piece exec access a (at + m) (a.len - (at + m)) ∷ xs

-- what stands behind a match of m bytes at the front, the match, and true
abbrev pub headed : Bool → Access → Interval → ℕ → List Object → List Object
headed exec access a m xs =
    literal (kind.Boolean true) ∷ piece exec access a 0 m ∷ piece exec access a m (a.len - m) ∷ xs

-- a length has room for n bytes
abbrev pub fits_in : ℕ → ℕ → Result (Unit {0}) ErrorName
fits_in len n = if nat_lt len n then Err RangeCheck else Ok tt

-- each is a byte, as those of a text always are
unfoldable pub are_bytes : List ℕ → Bool
are_bytes [] = true
are_bytes (b ∷ bs) = nat_lt b 256 && are_bytes bs

-- the bytes stand at the front of a string, and that front is the newest of the operands
abbrev pub fills : State → Object → Interval → List ℕ → List Object → Ask
fills s x a bs xs = cond (are_bytes bs)
    (done (byte_stores a 0 bs) (quiet (with_ops s (piece x.exec x.access a 0 (length bs) ∷ xs))))
    (fail Undefined)
