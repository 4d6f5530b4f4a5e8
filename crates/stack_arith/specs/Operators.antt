-- The operators of this crate.
use Rattle.std.specs.Prelude.{ℕ, Bool, nat_le, [], ◌∷◌, ◌++◌}
use Rattle.ps_names.specs.declared.places.TheConstants as at
use Rattle.ps_kinds.specs.declared.state.State.{State}
use Rattle.ps_operator.specs.Tree.{Ask}
use Rattle.ps_operator.specs.Lawful.{IsLawful}
use Rattle.ps_operator.specs.Operators.{Operators, run_in}
use Rattle.stack_arith.specs.Stack.{pop, exch, dup, count, clear, index, roll}
use Rattle.stack_arith.specs.Stack.{mark, cleartomark, counttomark}
use Rattle.stack_arith.specs.Arithmetic.{add, sub, mul, div, idiv, mod_}
use Rattle.stack_arith.specs.Rounding.{abs, neg, ceiling, floor, round, truncate}
use Rattle.stack_arith.specs.Functions.{sqrt, sin, cos, atan}
use Rattle.stack_arith.specs.Random.{rand, srand, rrand}
use Rattle.stack_arith.specs.Comparison.{eq, ne, gt, ge, lt, le}
use Rattle.stack_arith.specs.Bits.{and, or, xor, not_, bitshift}

-- on the operand stack
abbrev pub stack_operators : Operators
stack_operators =
    (at.POP, pop) ∷ (at.EXCH, exch) ∷ (at.DUP, dup) ∷ (at.COUNT, count) ∷ (at.CLEAR, clear)
    ∷ (at.INDEX, index) ∷ (at.ROLL, roll) ∷ (at.MARK, mark) ∷ (at.LEFT_BRACKET, mark)
    ∷ (at.LEFT_ANGLES, mark) ∷ (at.CLEARTOMARK, cleartomark) ∷ (at.COUNTTOMARK, counttomark) ∷ []

-- on numbers
abbrev pub number_operators : Operators
number_operators =
    (at.ADD, add) ∷ (at.SUB, sub) ∷ (at.MUL, mul) ∷ (at.DIV, div) ∷ (at.IDIV, idiv) ∷ (at.MOD, mod_)
    ∷ (at.ABS, abs) ∷ (at.NEG, neg) ∷ (at.CEILING, ceiling) ∷ (at.FLOOR, floor) ∷ (at.ROUND, round)
    ∷ (at.TRUNCATE, truncate) ∷ (at.SQRT, sqrt) ∷ (at.SIN, sin) ∷ (at.COS, cos)
    ∷ (at.ATAN, atan) ∷ []

-- random numbers, comparisons and bits
abbrev pub bit_operators : Operators
bit_operators =
    (at.RAND, rand) ∷ (at.SRAND, srand) ∷ (at.RRAND, rrand) ∷ (at.EQ, eq) ∷ (at.NE, ne)
    ∷ (at.GT, gt) ∷ (at.GE, ge) ∷ (at.LT, lt) ∷ (at.LE, le) ∷ (at.AND, and) ∷ (at.OR, or)
    ∷ (at.XOR, xor) ∷ (at.NOT, not_) ∷ (at.BITSHIFT, bitshift) ∷ []

-- all of them
abbrev pub operators : Operators
operators = stack_operators ++ number_operators ++ bit_operators

-- they are the first in the list of operators
abbrev pub belongs : ℕ → Bool
belongs n = nat_le n at.BITSHIFT

-- what the operator at a place does
abbrev pub run : ℕ → State → Ask
run n s = run_in operators n s

-- each keeps the states that fit
abbrev pub OperatorsLaw : Type 0
OperatorsLaw = (n : ℕ) → IsLawful (run n)
