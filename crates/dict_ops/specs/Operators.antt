-- The operators of this crate.
use Rattle.std.specs.Prelude.{ℕ, Bool, true, false, ◌&&◌, ◌||◌, nat_eq, nat_le, cond}
use Rattle.std.specs.Prelude.{List, [], ◌∷◌, ◌++◌, Ok, Err}
use Rattle.ps_names.specs.declared.places.TheConstants as at
use Rattle.ps_objects.specs.declared.object.Object.{Object}
use Rattle.ps_objects.specs.Operands.{dict_at}
use Rattle.ps_kinds.specs.declared.state.State.{State}
use Rattle.ps_operator.specs.Tree.{Ask}
use Rattle.ps_operator.specs.Lawful.{IsLawful}
use Rattle.ps_operator.specs.Operators.{Operators, run_in}
use Rattle.ps_operator.specs.Registers.{ops}
use Rattle.dict_ops.specs.Entries.{dict, dict_length, maxlength, known, dict_get, dict_put, undef}
use Rattle.dict_ops.specs.Stack.{begin, end, def, load, store, where_}
use Rattle.dict_ops.specs.Stack.{currentdict, countdictstack, cleardictstack, dictstack}
use Rattle.dict_ops.specs.Pairs.{pairs_dict}
use Rattle.dict_ops.specs.Copies.{dict_copy}

-- on dictionaries and their entries
abbrev pub entry_operators : Operators
entry_operators =
    (at.DICT, dict) ∷ (at.RIGHT_ANGLES, pairs_dict) ∷ (at.LENGTH, dict_length)
    ∷ (at.MAXLENGTH, maxlength) ∷ (at.GET, dict_get) ∷ (at.PUT, dict_put) ∷ (at.COPY, dict_copy) ∷ []

-- on the dictionary stack
abbrev pub stack_operators : Operators
stack_operators =
    (at.BEGIN, begin) ∷ (at.END, end) ∷ (at.DEF, def) ∷ (at.LOAD, load) ∷ (at.STORE, store)
    ∷ (at.KNOWN, known) ∷ (at.WHERE, where_) ∷ (at.UNDEF, undef) ∷ (at.CURRENTDICT, currentdict)
    ∷ (at.COUNTDICTSTACK, countdictstack) ∷ (at.CLEARDICTSTACK, cleardictstack)
    ∷ (at.DICTSTACK, dictstack) ∷ []

-- all of them
abbrev pub operators : Operators
operators = entry_operators ++ stack_operators

-- they stand together in the list of operators
abbrev pub is_offered : ℕ → Bool
is_offered n = nat_le at.DICT n && nat_le n at.DICTSTACK

-- the operand is a dictionary
abbrev pub is_dict_at : ℕ → List Object → Bool
is_dict_at depth xs = elim (dict_at depth xs) [ Ok d ↦ true | Err e ↦ false ]

-- where an operator is one of several types of containers, its container is a dictionary
abbrev pub is_on_dict : ℕ → List Object → Bool
is_on_dict n xs =
    cond (nat_eq n at.LENGTH || nat_eq n at.COPY) (is_dict_at 0 xs)
    (cond (nat_eq n at.GET) (is_dict_at 1 xs)
    (cond (nat_eq n at.PUT) (is_dict_at 2 xs) true))

-- an operator of this crate on these operands
abbrev pub belongs : ℕ → State → Bool
belongs n s = is_offered n && is_on_dict n (ops s)

-- what the operator at a place does
abbrev pub run : ℕ → State → Ask
run n s = run_in operators n s

-- each keeps the states that fit
abbrev pub OperatorsLaw : Type 0
OperatorsLaw = (n : ℕ) → IsLawful (run n)
