-- Arrays that are filled with matrices (section 8.2 of the language manual).
use Rattle.std.specs.Prelude.{ℕ, false, ◌∷◌, drop}
use Rattle.ps_shapes.specs.declared.numbers.Matrix.{Matrix}
use Rattle.ps_fixed.specs.Matrices.{matrix_product, inverse_of}
use Rattle.ps_objects.specs.Object.{whole_of}
use Rattle.ps_objects.specs.Operands.{needed, room_for, object_at, array_at, readable_at, writable_at}
use Rattle.ps_objects.specs.declared.object.Kind.TheVariants as kind
use Rattle.ps_objects.specs.declared.object.Object.{Object}
use Rattle.ps_objects.specs.declared.objects.Interval.{Interval}
use Rattle.ps_objects.specs.declared.place.Shape.TheVariants as shape
use Rattle.ps_kinds.specs.declared.state.State.{State}
use Rattle.ps_memory.specs.Tree.{done, makes}
use Rattle.ps_operator.specs.Budgets.{unit_room}
use Rattle.ps_operator.specs.Making.{next_cell}
use Rattle.ps_operator.specs.Registers.{ops, literal, with_ops, spent, quiet}
use Rattle.ps_operator.specs.Tree.{Ask, read, look_then}
use Rattle.real_operands.specs.Reals.{defined}
use Rattle.mat_ops.specs.Matrices.{six, matrix_in, matrix_stores, identity}
use Rattle.mat_ops.specs.Current.{current, default_of}

-- the array that is made next, of six items
abbrev pub next_six : State → Interval
next_six s = whole_of (next_cell s) 6

-- an array as a literal object
abbrev pub array_of : Interval → Object
array_of a = literal (kind.Array a false)

-- matrix M: a new array with the identity
abbrev pub matrix : State → Ask
matrix s =
    read (room_for 1 (ops s)) (λ _.
    read (unit_room s.kind s.units 6) (λ _.
    done (makes (next_cell s) (shape.Array 6) ∷ matrix_stores (next_six s) identity)
    (quiet (spent (with_ops s (array_of (next_six s) ∷ ops s)) 6))))

-- fills the newest operand, which stays, with a matrix
abbrev pub fills : Matrix → State → Ask
fills m s =
    read (needed 1 (ops s)) (λ _.
    read (array_at 0 (ops s)) (λ a.
    read (writable_at 0 (ops s)) (λ _.
    read (six a) (λ _.
    done (matrix_stores a m) (quiet s)))))

-- M identmatrix M: with the identity
abbrev pub identmatrix : State → Ask
identmatrix s = fills identity s

-- M defaultmatrix M: with the default matrix
abbrev pub defaultmatrix : State → Ask
defaultmatrix s = fills (default_of s) s

-- M currentmatrix M: with the current one
abbrev pub currentmatrix : State → Ask
currentmatrix s = fills (current s) s

-- ends with a matrix in an array, which goes in the place of the newest n operands
abbrev pub filled : State → ℕ → Interval → Object → Matrix → Ask
filled s n a x m = done (matrix_stores a m) (quiet (with_ops s (x ∷ drop n (ops s))))

-- M1 M2 M3 concatmatrix M3: with what does first M1 and then M2
abbrev pub concatmatrix : State → Ask
concatmatrix s =
    read (needed 3 (ops s)) (λ _.
    read (array_at 0 (ops s)) (λ target.
    read (array_at 1 (ops s)) (λ second.
    read (array_at 2 (ops s)) (λ first.
    read (object_at 0 (ops s)) (λ x.
    read (writable_at 0 (ops s)) (λ _.
    read (readable_at 1 (ops s)) (λ _.
    read (readable_at 2 (ops s)) (λ _.
    read (six target) (λ _.
    read (six second) (λ _.
    read (six first) (λ _.
    look_then (matrix_in second) (λ p.
    look_then (matrix_in first) (λ m.
    read (defined (matrix_product m p)) (λ r.
    filled s 3 target x r))))))))))))))

-- M1 M2 invertmatrix M2: with the inverse of M1
abbrev pub invertmatrix : State → Ask
invertmatrix s =
    read (needed 2 (ops s)) (λ _.
    read (array_at 0 (ops s)) (λ target.
    read (array_at 1 (ops s)) (λ source.
    read (object_at 0 (ops s)) (λ x.
    read (writable_at 0 (ops s)) (λ _.
    read (readable_at 1 (ops s)) (λ _.
    read (six target) (λ _.
    read (six source) (λ _.
    look_then (matrix_in source) (λ m.
    read (defined (inverse_of m)) (λ r.
    filled s 2 target x r))))))))))
