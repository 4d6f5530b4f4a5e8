-- The operators of this crate.
use Rattle.std.specs.Prelude.{ℕ, Bool, true, false, ◌&&◌, ◌||◌, not, nat_eq, nat_le, cond, List, [], ◌∷◌, Ok, Err}
use Rattle.ps_names.specs.declared.places.TheConstants as at
use Rattle.ps_objects.specs.Operands.{dict_at}
use Rattle.ps_objects.specs.declared.object.Object.{Object}
use Rattle.ps_kinds.specs.declared.state.State.{State}
use Rattle.ps_operator.specs.Tree.{Ask}
use Rattle.ps_operator.specs.Lawful.{IsLawful}
use Rattle.ps_operator.specs.Operators.{Operators, run_in}
use Rattle.ps_operator.specs.Registers.{ops}
use Rattle.array_ops.specs.Making.{array, right_bracket, packedarray, setpacking, currentpacking}
use Rattle.array_ops.specs.Members.{size, get, put}
use Rattle.array_ops.specs.Intervals.{getinterval, putinterval, copy}
use Rattle.array_ops.specs.Spreading.{aload, astore}

-- all of them
abbrev pub operators : Operators
operators =
    (at.ARRAY, array) ∷ (at.RIGHT_BRACKET, right_bracket) ∷ (at.PACKEDARRAY, packedarray)
    ∷ (at.SETPACKING, setpacking) ∷ (at.CURRENTPACKING, currentpacking) ∷ (at.LENGTH, size)
    ∷ (at.GET, get) ∷ (at.PUT, put) ∷ (at.GETINTERVAL, getinterval)
    ∷ (at.PUTINTERVAL, putinterval) ∷ (at.COPY, copy) ∷ (at.ALOAD, aload) ∷ (at.ASTORE, astore)
    ∷ []

-- those that stand together in the list of operators
abbrev pub is_alone : ℕ → Bool
is_alone n = nat_le at.ARRAY n && nat_le n at.ASTORE

-- those that are operators on dictionaries, too
abbrev pub is_shared : ℕ → Bool
is_shared n =
    nat_eq n at.LENGTH || nat_eq n at.GET || nat_eq n at.PUT || nat_eq n at.COPY

-- an operator of this crate, on whatever operands
abbrev pub is_offered : ℕ → Bool
is_offered n = is_alone n || is_shared n

-- the operand is a dictionary
abbrev pub is_dict_at : ℕ → List Object → Bool
is_dict_at depth xs = elim (dict_at depth xs) [ Ok d ↦ true | Err e ↦ false ]

-- where an operator is one of several types of containers, its container is a dictionary
abbrev pub is_on_dict : ℕ → List Object → Bool
is_on_dict n xs =
    cond (nat_eq n at.LENGTH || nat_eq n at.COPY) (is_dict_at 0 xs)
    (cond (nat_eq n at.GET) (is_dict_at 1 xs)
    (cond (nat_eq n at.PUT) (is_dict_at 2 xs) false))

-- an operator of this crate on these operands
abbrev pub belongs : ℕ → State → Bool
belongs n s = is_offered n && not (is_on_dict n (ops s))

-- what the operator at a place does
abbrev pub run : ℕ → State → Ask
run n s = run_in operators n s

-- each keeps the states that fit
abbrev pub OperatorsLaw : Type 0
OperatorsLaw = (n : ℕ) → IsLawful (run n)
