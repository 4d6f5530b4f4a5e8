-- Matrices as arrays of six numbers (section 4.3.3 of the language manual).
use Rattle.std.specs.Prelude.{ℕ, nat_eq, neg_ℤ, pos, if◌then◌else◌, List, [], ◌∷◌, slice_get, Some, None, Result, Ok, Err}
use Rattle.ps_shapes.specs.declared.numbers.Matrix.{Matrix}
use Rattle.ps_shapes.specs.declared.numbers.Real.{Real}
use Rattle.ps_fixed.specs.Sines.{sine_of, cosine_of}
use Rattle.ps_names.specs.declared.error_name.ErrorName.{ErrorName}
use Rattle.ps_names.specs.declared.error_name.ErrorName.TheVariants.{RangeCheck, TypeCheck}
use Rattle.ps_objects.specs.declared.object.Kind.{Kind}
use Rattle.ps_objects.specs.declared.object.Kind.TheVariants as kind
use Rattle.ps_objects.specs.declared.object.Object.{Object}
use Rattle.ps_objects.specs.declared.objects.Interval.{Interval}
use Rattle.ps_objects.specs.declared.objects.Number.TheVariants as number
use Rattle.ps_memory.specs.Tree.{Application, Change}
use Rattle.ps_operator.specs.Arrays.{items_of}
use Rattle.ps_operator.specs.Registers.{literal}
use Rattle.ps_operator.specs.Storing.{item_stores}
use Rattle.ps_operator.specs.Tree.{read, look_then, found}
use Rattle.real_operands.specs.Reals.{as_real}

-- ---- a matrix in an array

-- the array has six items; else rangecheck
abbrev pub six : Interval → Result (Unit {0}) ErrorName
six a = if nat_eq a.len 6 then Ok tt else Err RangeCheck

-- the real that an item tells; typecheck where it is no number
abbrev pub real_in : Kind → Result Real ErrorName
real_in (kind.Integer n) = Ok (as_real (number.Integer n))
real_in (kind.Real r) = Ok r
real_in _ = Err TypeCheck

-- the real at a place among items
abbrev pub entry_at : ℕ → List Object → Result Real ErrorName
entry_at i xs = elim (slice_get xs i) [ None ↦ Err RangeCheck | Some x ↦ real_in x.kind ]

-- the first four entries, and then two more
abbrev pub moved_by : List Object → Real → Real → Real → Real → Result Matrix ErrorName
moved_by xs a b c d =
    elim (entry_at 4 xs) [
      | Err e ↦ Err e
      | Ok tx ↦
          elim (entry_at 5 xs) [
            | Err e ↦ Err e
            | Ok ty ↦
                Ok (record { a = a; b = b; c = c; d = d; tx = tx; ty = ty })
          ]
    ]

-- the first two entries, and then four more
abbrev pub turned_by : List Object → Real → Real → Result Matrix ErrorName
turned_by xs a b =
    elim (entry_at 2 xs) [
      | Err e ↦ Err e
      | Ok c ↦
          elim (entry_at 3 xs) [ Err e ↦ Err e | Ok d ↦ moved_by xs a b c d ]
    ]

-- the matrix that six items tell, the first that is no number refused first
abbrev pub matrix_of : List Object → Result Matrix ErrorName
matrix_of xs =
    elim (entry_at 0 xs) [
      | Err e ↦ Err e
      | Ok a ↦
          elim (entry_at 1 xs) [ Err e ↦ Err e | Ok b ↦ turned_by xs a b ]
    ]

-- the matrix in an array: all items are looked at, in their order, before one is judged
abbrev pub matrix_in : Interval → Application Matrix
matrix_in a = look_then (items_of a) (λ xs. read (matrix_of xs) found)

-- a real as an item
abbrev pub item : Real → Object
item r = literal (kind.Real r)

-- the items of a matrix
abbrev pub items : Matrix → List Object
items m = item m.a ∷ item m.b ∷ item m.c ∷ item m.d ∷ item m.tx ∷ item m.ty ∷ []

-- the matrix in an array, item by item
abbrev pub matrix_stores : Interval → Matrix → List Change
matrix_stores a m = item_stores a 0 (items m)

-- ---- matrices of a kind

-- 0
abbrev pub nought : Real
nought = record { count = pos 0 }

-- 1
abbrev pub one : Real
one = record { count = pos 16777216 }

-- [1 0 0 1 x y]
abbrev pub translation : Real → Real → Matrix
translation x y = record { a = one; b = nought; c = nought; d = one; tx = x; ty = y }

-- [x 0 0 y 0 0]
abbrev pub scaling : Real → Real → Matrix
scaling x y = record { a = x; b = nought; c = nought; d = y; tx = nought; ty = nought }

-- [1 0 0 1 0 0]
abbrev pub identity : Matrix
identity = translation nought nought

-- the sine of an angle in degrees
abbrev pub sine : Real → Real
sine r = record { count = sine_of r.count }

-- its cosine
abbrev pub cosine : Real → Real
cosine r = record { count = cosine_of r.count }

-- with the other sign
abbrev pub opposite : Real → Real
opposite r = record { count = neg_ℤ r.count }

-- [cos sin -sin cos 0 0]: the x axis turns toward the y axis
abbrev pub rotation : Real → Matrix
rotation r = record {
  a = cosine r;
  b = sine r;
  c = opposite (sine r);
  d = cosine r;
  tx = nought;
  ty = nought;
}
