-- Equality and order (section 8.2 of the language manual).
use Rattle.std.specs.Prelude.{ℕ, ℤ, Bool, true, false, not, ◌&&◌, nat_eq, cond}
use Rattle.std.specs.Prelude.{List, [], ◌∷◌, drop, Option, Some, None}
use Rattle.std.specs.Ordering.{int_eq, int_cmp, nat_cmp, is_lt, is_le, is_gt, is_ge}
use Rattle.std.specs.Cmp.Lexicographic.{pointwise, slice_cmp}
use Rattle.std.specs.declared.cmp.Ordering.{Ordering}
use Rattle.ps_objects.specs.contracts.object.KindPartialEq.TheImpl as kinds
use Rattle.ps_objects.specs.contracts.objects.IntervalPartialEq.TheImpl as intervals
use Rattle.ps_objects.specs.declared.object.Object.{Object}
use Rattle.ps_objects.specs.declared.object.Kind.{Kind}
use Rattle.ps_objects.specs.declared.object.Kind.TheVariants as kind
use Rattle.ps_objects.specs.declared.objects.Interval.{Interval}
use Rattle.ps_objects.specs.declared.objects.Number.{Number}
use Rattle.ps_objects.specs.declared.objects.Number.TheVariants as number
use Rattle.ps_objects.specs.Operands.{needed, object_at, number_at, string_at, readable_at}
use Rattle.ps_kinds.specs.declared.state.State.{State}
use Rattle.ps_memory.specs.Tree.{Application}
use Rattle.ps_operator.specs.Tree.{Ask, read, look_then, found}
use Rattle.ps_operator.specs.Keys.{bytes_of, key_right_of}
use Rattle.ps_operator.specs.Registers.{ops, literal, leaves}
use Rattle.stack_arith.specs.Numbers.{as_real}

-- ---- equality of objects that are no texts

-- the count of a number
abbrev pub count_of : Kind → Option ℤ
count_of (kind.Integer n) = Some (as_real (number.Integer n)).count
count_of (kind.Real r) = Some r.count
count_of _ = None

-- the interval of an array, packed or not
abbrev pub items_of : Kind → Option Interval
items_of (kind.Array a packed) = Some a
items_of _ = None

-- the test of two that are there, and else another
abbrev pub both_or : {A : Type 0} → (A → A → Bool) → Option A → Option A → Bool → Bool
both_or same (Some a) (Some b) other = same a b
both_or same _ _ other = other

-- numbers by value, arrays by cell, start and length, all else by type and value
abbrev pub same : Kind → Kind → Bool
same x y =
    both_or int_eq (count_of x) (count_of y)
    (both_or intervals.eq-value.it (items_of x) (items_of y) (kinds.eq-value.it x y))

-- ---- equality of texts

-- a string or a name
abbrev pub is_text : Kind → Bool
is_text (kind.Str a) = true
is_text (kind.Name n) = true
is_text _ = false

-- the bytes of a text; a string is looked at whole
abbrev pub text_of : Kind → Application (List ℕ)
text_of (kind.Str a) = bytes_of a
text_of (kind.Name n) = found n
text_of _ = found []

-- two texts by their bytes, from the top operand down; strings have to be readable
abbrev pub same_text : Object → Object → Application Bool
same_text x y =
    read (key_right_of y.access y.kind) (λ _.
    read (key_right_of x.access x.kind) (λ _.
    look_then (text_of y.kind) (λ v.
    look_then (text_of x.kind) (λ u. found (pointwise nat_eq u v)))))

-- texts by their bytes, all else as objects that are no texts
abbrev pub equal : Object → Object → Application Bool
equal x y = cond (is_text x.kind && is_text y.kind) (same_text x y) (found (same x.kind y.kind))

-- two objects give a truth value by whether they are equal
abbrev pub equality : (Bool → Bool) → State → Ask
equality f s =
    read (needed 2 (ops s)) (λ _.
    read (object_at 0 (ops s)) (λ y.
    read (object_at 1 (ops s)) (λ x.
    look_then (equal x y) (λ b.
    leaves s (literal (kind.Boolean (f b)) ∷ drop 2 (ops s))))))

-- any any eq boolean
abbrev pub eq : State → Ask
eq = equality (λ b. b)

-- any any ne boolean
abbrev pub ne : State → Ask
ne = equality not

-- ---- order

-- a string
abbrev pub is_string : Kind → Bool
is_string (kind.Str a) = true
is_string _ = false

-- two strings by their bytes, which are looked at whole, from the top operand down
abbrev pub string_order : List Object → Application Ordering
string_order xs =
    read (string_at 0 xs) (λ b.
    read (string_at 1 xs) (λ a.
    read (readable_at 0 xs) (λ _.
    read (readable_at 1 xs) (λ _.
    look_then (bytes_of b) (λ v.
    look_then (bytes_of a) (λ u. found (slice_cmp nat_cmp u v)))))))

-- the order of two values
abbrev pub values_order : Number → Number → Ordering
values_order a b = int_cmp (as_real a).count (as_real b).count

-- two numbers by their values
abbrev pub number_order : List Object → Application Ordering
number_order xs =
    read (number_at 0 xs) (λ b.
    read (number_at 1 xs) (λ a. found (values_order a b)))

-- two strings where the top operand is one, else two numbers
abbrev pub order : List Object → Application Ordering
order xs =
    read (object_at 0 xs) (λ y. cond (is_string y.kind) (string_order xs) (number_order xs))

-- two numbers or strings give a truth value by their order
abbrev pub comparison : (Ordering → Bool) → State → Ask
comparison test s =
    read (needed 2 (ops s)) (λ _.
    look_then (order (ops s)) (λ o.
    leaves s (literal (kind.Boolean (test o)) ∷ drop 2 (ops s))))

-- number number gt boolean, string string gt boolean
abbrev pub gt : State → Ask
gt = comparison is_gt

-- number number ge boolean, string string ge boolean
abbrev pub ge : State → Ask
ge = comparison is_ge

-- number number lt boolean, string string lt boolean
abbrev pub lt : State → Ask
lt = comparison is_lt

-- number number le boolean, string string le boolean
abbrev pub le : State → Ask
le = comparison is_le
