-- Points and distances under a matrix and under its inverse (section 4.3.2 of the language manual).
use Rattle.std.specs.Prelude.{ℕ, ◌∷◌, drop, Result}
use Rattle.ps_shapes.specs.declared.numbers.Matrix.{Matrix}
use Rattle.ps_shapes.specs.declared.numbers.Real.{Real}
use Rattle.ps_fixed.specs.declared.rounding.Undefined.{Undefined}
use Rattle.ps_fixed.specs.Arithmetic.{and_then}
use Rattle.ps_fixed.specs.Matrices.{image_of, delta_image_of, inverse_of}
use Rattle.ps_objects.specs.Operands.{needed, array_at, readable_at}
use Rattle.ps_kinds.specs.declared.state.State.{State}
use Rattle.ps_operator.specs.Registers.{ops, leaves}
use Rattle.ps_operator.specs.Tree.{Ask, read, look_then}
use Rattle.real_operands.specs.Points.{point_at}
use Rattle.real_operands.specs.Reals.{defined}
use Rattle.mat_ops.specs.Matrices.{six, item, matrix_in}
use Rattle.mat_ops.specs.Current.{current}
use Rattle.mat_ops.specs.Changing.{either}
use Rattle.mat_ops.specs.declared.carrying.Way.{Way}
use Rattle.mat_ops.specs.declared.carrying.Way.TheVariants.{Point, Distance, PointBack, DistanceBack}

-- (x, y) under the matrix, or under its inverse; a distance isn't moved by tx and ty
abbrev pub carried : Way → Matrix → Real → Real → Result (Real × Real) Undefined
carried Point m x y = image_of m x y
carried Distance m x y = delta_image_of m x y
carried PointBack m x y = and_then (inverse_of m) (λ i. image_of i x y)
carried DistanceBack m x y = and_then (inverse_of m) (λ i. delta_image_of i x y)

-- ends with two numbers in the place of the newest n operands
abbrev pub leaves_point : State → ℕ → Real × Real → Ask
leaves_point s n p = leaves s (item p.1 ∷ item p.0 ∷ drop n (ops s))

-- x y: under the current matrix
abbrev pub by_current : Way → State → Ask
by_current w s =
    read (needed 2 (ops s)) (λ _.
    read (point_at 0 (ops s)) (λ p.
    read (defined (carried w (current s) p.0 p.1)) (λ q.
    leaves_point s 2 q)))

-- x y M: under the matrix in the array
abbrev pub by_array : Way → State → Ask
by_array w s =
    read (needed 3 (ops s)) (λ _.
    read (array_at 0 (ops s)) (λ a.
    read (point_at 1 (ops s)) (λ p.
    read (readable_at 0 (ops s)) (λ _.
    read (six a) (λ _.
    look_then (matrix_in a) (λ m.
    read (defined (carried w m p.0 p.1)) (λ q.
    leaves_point s 3 q)))))))

-- the newest operand tells which
abbrev pub carries : Way → State → Ask
carries w = either (by_array w) (by_current w)

-- x y transform x' y', x y M transform x' y'
abbrev pub transform : State → Ask
transform = carries Point

-- x y dtransform x' y', x y M dtransform x' y'
abbrev pub dtransform : State → Ask
dtransform = carries Distance

-- x y itransform x' y', x y M itransform x' y'
abbrev pub itransform : State → Ask
itransform = carries PointBack

-- x y idtransform x' y', x y M idtransform x' y'
abbrev pub idtransform : State → Ask
idtransform = carries DistanceBack
