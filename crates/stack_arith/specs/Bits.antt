-- Operators on booleans and on the bits of integers (section 8.2 of the language manual).
use Rattle.std.specs.Prelude.{ℕ, ℤ, pos, negsuc, ◌+◌, ◌*◌, ◌/◌, ◌%◌, ◌^◌, ◌∷◌, drop}
use Rattle.std.specs.Prelude.{Bool, true, false, not, ◌&&◌, ◌||◌, Result, Ok, Err}
use Rattle.std.specs.Bool.{beq}
use Rattle.std.specs.Int.{w32, cast_signed, cast_unsigned}
use Rattle.std.specs.Int.{int_bit_and, int_bit_or, int_bit_xor, int_bit_not}
use Rattle.ps_names.specs.declared.error_name.ErrorName.{ErrorName}
use Rattle.ps_names.specs.declared.error_name.ErrorName.TheVariants.{TypeCheck}
use Rattle.ps_objects.specs.declared.object.Kind.{Kind}
use Rattle.ps_objects.specs.declared.object.Kind.TheVariants as kind
use Rattle.ps_objects.specs.Operands.{needed, object_at}
use Rattle.ps_kinds.specs.declared.state.State.{State}
use Rattle.ps_operator.specs.Tree.{Ask, read}
use Rattle.ps_operator.specs.Registers.{ops, literal, leaves}
use Rattle.stack_arith.specs.Numbers.{of_integers}

-- two booleans by f, two integers by g
abbrev pub joined : (Bool → Bool → Bool) → (ℤ → ℤ → ℤ) → Kind → Kind → Result Kind ErrorName
joined f g (kind.Boolean a) (kind.Boolean b) = Ok (kind.Boolean (f a b))
joined f g (kind.Integer a) (kind.Integer b) = Ok (kind.Integer (g a b))
joined f g _ _ = Err TypeCheck

-- both
abbrev pub conjunction : Kind → Kind → Result Kind ErrorName
conjunction x y = joined ◌&&◌ (int_bit_and w32) x y

-- one of them, or both
abbrev pub disjunction : Kind → Kind → Result Kind ErrorName
disjunction x y = joined ◌||◌ (int_bit_or w32) x y

-- one of two, and not both
abbrev pub exclusion : Kind → Kind → Result Kind ErrorName
exclusion x y = joined (λ a b. not (beq a b)) (int_bit_xor w32) x y

-- two objects give one in their place, by their types and values
abbrev pub of_kinds : (Kind → Kind → Result Kind ErrorName) → State → Ask
of_kinds f s =
    read (needed 2 (ops s)) (λ _.
    read (object_at 0 (ops s)) (λ y.
    read (object_at 1 (ops s)) (λ x.
    read (f x.kind y.kind) (λ k.
    leaves s (literal k ∷ drop 2 (ops s))))))

-- boolean boolean and boolean, integer integer and integer
abbrev pub and : State → Ask
and = of_kinds conjunction

-- boolean boolean or boolean, integer integer or integer
abbrev pub or : State → Ask
or = of_kinds disjunction

-- boolean boolean xor boolean, integer integer xor integer
abbrev pub xor : State → Ask
xor = of_kinds exclusion

-- the other boolean, or the integer with each bit turned
abbrev pub opposite : Kind → Result Kind ErrorName
opposite (kind.Boolean b) = Ok (kind.Boolean (not b))
opposite (kind.Integer n) = Ok (kind.Integer (int_bit_not w32 n))
opposite _ = Err TypeCheck

-- boolean not boolean, integer not integer
abbrev pub not_ : State → Ask
not_ s =
    read (needed 1 (ops s)) (λ _.
    read (object_at 0 (ops s)) (λ x.
    read (opposite x.kind) (λ k.
    leaves s (literal k ∷ drop 1 (ops s)))))

-- 32 bits so many places to the left: those that leave are lost, and zeros come in
abbrev pub left_by : ℕ → ℕ → ℕ
left_by bits k = bits * 2 ^ k % 2 ^ 32

-- the same to the right
abbrev pub right_by : ℕ → ℕ → ℕ
right_by bits k = bits / 2 ^ k

-- the bits of an integer shifted to the left, or for a negative number to the right
abbrev pub shifted : ℤ → ℤ → ℤ
shifted n (pos k) = cast_signed w32 (left_by (cast_unsigned w32 n) k)
shifted n (negsuc k) = cast_signed w32 (right_by (cast_unsigned w32 n) (k + 1))

-- integer places bitshift integer
abbrev pub bitshift : State → Ask
bitshift = of_integers (λ n by. Ok (shifted n by))
