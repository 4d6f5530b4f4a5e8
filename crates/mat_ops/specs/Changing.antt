-- Translations, scalings and rotations, of the current matrix or into an array (section 4.3.2 of the language manual).
use Rattle.std.specs.Prelude.{ℕ, ◌+◌, Bool, true, false, cond, List, Result, Ok, Err}
use Rattle.ps_shapes.specs.declared.numbers.Matrix.{Matrix}
use Rattle.ps_names.specs.declared.error_name.ErrorName.{ErrorName}
use Rattle.ps_objects.specs.Operands.{needed, object_at, array_at, writable_at}
use Rattle.ps_objects.specs.declared.object.Object.{Object}
use Rattle.ps_kinds.specs.declared.state.State.{State}
use Rattle.ps_operator.specs.Registers.{ops}
use Rattle.ps_operator.specs.Tree.{Ask, read}
use Rattle.real_operands.specs.Points.{point_at}
use Rattle.real_operands.specs.Reals.{real_at}
use Rattle.mat_ops.specs.Matrices.{six, translation, scaling, rotation}
use Rattle.mat_ops.specs.Current.{before_current, becomes}
use Rattle.mat_ops.specs.Arrays.{filled}
use Rattle.mat_ops.specs.declared.changing.Motion.{Motion}
use Rattle.mat_ops.specs.declared.changing.Motion.TheVariants.{Translation, Scaling, Rotation}

-- the operand is an array
abbrev pub is_array_at : ℕ → List Object → Bool
is_array_at depth xs = elim (array_at depth xs) [ Ok a ↦ true | Err e ↦ false ]

-- one row where the newest operand is an array, and else another
abbrev pub either : (State → Ask) → (State → Ask) → State → Ask
either t u s = cond (is_array_at 0 (ops s)) (t s) (u s)

-- how many numbers a motion takes; no operator's proof opens this
unfoldable pub numbers : Motion → ℕ
numbers Translation = 2
numbers Scaling = 2
numbers Rotation = 1

-- the matrix of a motion by the numbers from that depth on; no operator's proof opens this
unfoldable pub motion_at : Motion → ℕ → List Object → Result Matrix ErrorName
motion_at Translation depth xs = elim (point_at depth xs) [ Err e ↦ Err e | Ok p ↦ Ok (translation p.0 p.1) ]
motion_at Scaling depth xs = elim (point_at depth xs) [ Err e ↦ Err e | Ok p ↦ Ok (scaling p.0 p.1) ]
motion_at Rotation depth xs = elim (real_at depth xs) [ Err e ↦ Err e | Ok r ↦ Ok (rotation r) ]

-- numbers: first the motion, then what the current matrix did
abbrev pub moves : Motion → State → Ask
moves k s =
    read (needed (numbers k) (ops s)) (λ _.
    read (motion_at k 0 (ops s)) (λ m.
    read (before_current m s) (λ p.
    becomes s (numbers k) p)))

-- numbers M: the array is filled with the motion's matrix
abbrev pub fills_with : Motion → State → Ask
fills_with k s =
    read (needed (numbers k + 1) (ops s)) (λ _.
    read (array_at 0 (ops s)) (λ a.
    read (object_at 0 (ops s)) (λ x.
    read (motion_at k 1 (ops s)) (λ m.
    read (writable_at 0 (ops s)) (λ _.
    read (six a) (λ _.
    filled s (numbers k + 1) a x m))))))

-- the newest operand tells which
abbrev pub changes : Motion → State → Ask
changes k = either (fills_with k) (moves k)

-- x y translate, x y M translate M
abbrev pub translate : State → Ask
translate = changes Translation

-- x y scale, x y M scale M
abbrev pub scale : State → Ask
scale = changes Scaling

-- angle rotate, angle M rotate M
abbrev pub rotate : State → Ask
rotate = changes Rotation
