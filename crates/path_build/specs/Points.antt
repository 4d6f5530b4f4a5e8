-- Points of a path in user space, and results that go on.
use Rattle.std.specs.Prelude.{ℕ, List, [], ◌∷◌, Result, Ok, Err}
use Rattle.ps_names.specs.declared.error_name.ErrorName.{ErrorName}
use Rattle.ps_shapes.specs.declared.numbers.Matrix.{Matrix}
use Rattle.ps_shapes.specs.declared.numbers.Real.{Real}
use Rattle.ps_shapes.specs.declared.path.DevicePoint.{DevicePoint}
use Rattle.ps_shapes.specs.declared.path.Segment.{Segment}
use Rattle.ps_shapes.specs.declared.path.Segment.TheVariants.{Curve}
use Rattle.ps_objects.specs.declared.object.Kind.TheVariants as kind
use Rattle.ps_objects.specs.declared.object.Object.{Object}
use Rattle.ps_fixed.specs.Matrices.{inverse_of, image_of}
use Rattle.ps_operator.specs.Registers.{literal}
use Rattle.real_operands.specs.Points.{placed}
use Rattle.real_operands.specs.Reals.{defined}

-- what k gives of a result, where that is no error
abbrev pub going_on : {A B : Type 0} → Result A ErrorName → (A → Result B ErrorName) → Result B ErrorName
going_on (Ok x) k = k x
going_on (Err e) k = Err e

-- the way from the device back to user space
abbrev pub way_back : Matrix → Result Matrix ErrorName
way_back m = defined (inverse_of m)

-- a point of the device in user space, by the way back
abbrev pub told_by : Matrix → DevicePoint → Result (Real × Real) ErrorName
told_by back p = defined (image_of back p.x p.y)

-- a point of the device in user space
abbrev pub user_point : Matrix → DevicePoint → Result (Real × Real) ErrorName
user_point m p = going_on (way_back m) (λ back. told_by back p)

-- the curve of three points of user space
abbrev pub curve_of : Matrix → Real × Real → Real × Real → Real × Real → Result Segment ErrorName
curve_of m a b c =
    going_on (placed m a.0 a.1) (λ p.
    going_on (placed m b.0 b.1) (λ q.
    going_on (placed m c.0 c.1) (λ r. Ok (Curve p q r))))

-- a real as an object
abbrev pub real : Real → Object
real x = literal (kind.Real x)

-- a point on the operands, its y on top
abbrev pub with_point : Real × Real → List Object → List Object
with_point p xs = real p.1 ∷ real p.0 ∷ xs
