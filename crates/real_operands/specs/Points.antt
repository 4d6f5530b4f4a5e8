-- Points of the user's space and of the device's.
use Rattle.std.specs.Prelude.{ℕ, ℤ, pos, negsuc, ◌+◌, Bool, true, false, T, Option, Some, None, List, Result, Ok, Err}
use Rattle.std.specs.Int.Signed.{le_z}
use Rattle.ps_shapes.specs.Near.{IsOnDevice}
use Rattle.ps_shapes.specs.declared.numbers.Matrix.{Matrix}
use Rattle.ps_shapes.specs.declared.numbers.Real.{Real}
use Rattle.ps_shapes.specs.declared.path.DevicePoint.{DevicePoint}
use Rattle.ps_fixed.specs.Arithmetic.{sum_of}
use Rattle.ps_fixed.specs.Matrices.{image_of, delta_image_of}
use Rattle.ps_names.specs.declared.error_name.ErrorName.{ErrorName}
use Rattle.ps_names.specs.declared.error_name.ErrorName.TheVariants.{LimitCheck}
use Rattle.ps_objects.specs.declared.object.Object.{Object}
use Rattle.real_operands.specs.Reals.{defined, real_at}

-- that a test holds, where it does
abbrev pub holding : (test : Bool) → Option (T test)
holding true = Some tt
holding false = None

-- that a count lies within 2^46 of 0, where it does
abbrev pub on_device : (count : ℤ) → Option (IsOnDevice count)
on_device count =
    elim (holding (le_z (negsuc 70368744177663) count)) [
      | None ↦ None
      | Some low ↦
          elim (holding (le_z count (pos 70368744177664))) [
            | None ↦ None
            | Some high ↦
                Some (record { le = low }, record { le = high })
          ]
    ]

-- the point of the device; limitcheck where a coordinate is farther than 2^46 counts from 0
abbrev pub device_point : Real → Real → Result DevicePoint ErrorName
device_point x y =
    elim (on_device x.count) [
      | None ↦ Err LimitCheck
      | Some near_x ↦
          elim (on_device y.count) [
            | None ↦ Err LimitCheck
            | Some near_y ↦
                Ok (record { x = x; y = y; near_x = near_x; near_y = near_y })
          ]
    ]

-- the point (x, y) of the user's space on the device
abbrev pub placed : Matrix → Real → Real → Result DevicePoint ErrorName
placed m x y = elim (defined (image_of m x y)) [ Err e ↦ Err e | Ok image ↦ device_point image.0 image.1 ]

-- the sums of a point's coordinates and a distance's
abbrev pub shifted : DevicePoint → Real × Real → Result DevicePoint ErrorName
shifted from distance =
    elim (defined (sum_of from.x distance.0)) [
      | Err e ↦ Err e
      | Ok x ↦
          elim (defined (sum_of from.y distance.1)) [
            | Err e ↦ Err e
            | Ok y ↦
                device_point x y
          ]
    ]

-- a point of the device moved by the distance (x, y) of the user's space
abbrev pub moved : Matrix → DevicePoint → Real → Real → Result DevicePoint ErrorName
moved m from x y = elim (defined (delta_image_of m x y)) [ Err e ↦ Err e | Ok distance ↦ shifted from distance ]

-- the two numbers that are so deep below the newest operand, as (x, y), y the newer and the first that is read
abbrev pub point_at : ℕ → List Object → Result (Real × Real) ErrorName
point_at depth xs =
    elim (real_at depth xs) [
      | Err e ↦ Err e
      | Ok y ↦
          elim (real_at (depth + 1) xs) [ Err e ↦ Err e | Ok x ↦ Ok (x, y) ]
    ]
