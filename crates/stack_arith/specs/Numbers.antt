-- Numbers as operands and as results.
use Rattle.std.specs.Prelude.{ℤ, pos, negsuc, ◌*ℤ◌, ◌&&◌, Bool, int_le, if◌then◌else◌}
use Rattle.std.specs.Prelude.{[], ◌∷◌, drop, Result, Ok, Err}
use Rattle.ps_shapes.specs.declared.numbers.Real.{Real}
use Rattle.ps_fixed.specs.declared.rounding.Undefined.{Undefined}
use Rattle.ps_names.specs.declared.error_name.ErrorName.{ErrorName}
use Rattle.ps_names.specs.declared.error_name.ErrorName.TheVariants.{UndefinedResult}
use Rattle.ps_objects.specs.declared.object.Kind.{Kind}
use Rattle.ps_objects.specs.declared.object.Kind.TheVariants as kind
use Rattle.ps_objects.specs.declared.objects.Number.{Number}
use Rattle.ps_objects.specs.declared.objects.Number.TheVariants as number
use Rattle.ps_objects.specs.Operands.{needed, number_at, integer_at}
use Rattle.ps_kinds.specs.declared.state.State.{State}
use Rattle.ps_operator.specs.Tree.{Ask, read}
use Rattle.ps_operator.specs.Registers.{ops, literal, leaves}

-- the number as a real
abbrev pub as_real : Number → Real
as_real (number.Integer n) = record { count = n *ℤ pos 16777216 }
as_real (number.Real r) = r

-- the real, or undefinedresult
abbrev pub defined : Result Real Undefined → Result Number ErrorName
defined (Ok r) = Ok (number.Real r)
defined (Err u) = Err UndefinedResult

-- -2^31 ≤ z < 2^31
abbrev pub fits_i32 : ℤ → Bool
fits_i32 z = int_le (negsuc 2147483647) z && int_le z (pos 2147483647)

-- the integer, or where it has more than 32 bits the other result
abbrev pub integer_or : ℤ → Result Number ErrorName → Result Number ErrorName
integer_or z other = if fits_i32 z then Ok (number.Integer z) else other

-- the number as an object's type and value
abbrev pub kind_of : Number → Kind
kind_of (number.Integer n) = kind.Integer n
kind_of (number.Real r) = kind.Real r

-- one number gives a number in its place
abbrev pub of_one : (Number → Result Number ErrorName) → State → Ask
of_one f s =
    read (needed 1 (ops s)) (λ _.
    read (number_at 0 (ops s)) (λ a.
    read (f a) (λ r.
    leaves s (literal (kind_of r) ∷ drop 1 (ops s)))))

-- two numbers give one in their place
abbrev pub of_two : (Number → Number → Result Number ErrorName) → State → Ask
of_two f s =
    read (needed 2 (ops s)) (λ _.
    read (number_at 0 (ops s)) (λ b.
    read (number_at 1 (ops s)) (λ a.
    read (f a b) (λ r.
    leaves s (literal (kind_of r) ∷ drop 2 (ops s))))))

-- two integers give one in their place
abbrev pub of_integers : (ℤ → ℤ → Result ℤ ErrorName) → State → Ask
of_integers f s =
    read (needed 2 (ops s)) (λ _.
    read (integer_at 0 (ops s)) (λ b.
    read (integer_at 1 (ops s)) (λ a.
    read (f a b) (λ n.
    leaves s (literal (kind.Integer n) ∷ drop 2 (ops s))))))
