-- Points that lie on the device.
use Rattle.std.proofs.Common.{◌≡◌, ℤ, pos, negsuc, Bool, true, false, T, Option, Some, None, Result, Ok, Err, refl, ap, sym, ◌∙◌}
use Rattle.std.specs.Int.Signed.{le_z}
use Rattle.ps_shapes.specs.Near.{IsOnDevice}
use Rattle.ps_shapes.specs.declared.numbers.Real.{Real}
use Rattle.ps_shapes.specs.declared.path.DevicePoint.{DevicePoint}
use Rattle.ps_shapes.specs.declared.numbers.Matrix.{Matrix}
use Rattle.ps_fixed.specs.declared.rounding.Undefined.{Undefined}
use Rattle.ps_fixed.specs.Matrices.{image_of}
use Rattle.ps_names.specs.declared.error_name.ErrorName.{ErrorName}
use Rattle.ps_names.specs.declared.error_name.ErrorName.TheVariants.{LimitCheck}
use Rattle.real_operands.specs.Reals.{defined}
use Rattle.real_operands.specs.Points.{holding, on_device, device_point, placed}

holding_yes : (test : Bool) (p : T test) → holding test ≡ Some p
holding_yes true tt = refl
holding_yes false p = absurd p

on_device_yes : (count : ℤ) (near : IsOnDevice count) → on_device count ≡ Some near
on_device_yes count near =
    ap (λ (o : Option (T (le_z (negsuc 70368744177663) count))). elim o [
      | None ↦ None
      | Some low ↦
          elim (holding (le_z count (pos 70368744177664))) [ None ↦ None | Some high ↦ Some (record { le = low }, record { le = high }) ]
    ])
    (holding_yes (le_z (negsuc 70368744177663) count) near.0.le)
    ∙ ap (λ (o : Option (T (le_z count (pos 70368744177664)))). elim o [ None ↦ None | Some high ↦ Some (near.0, record { le = high }) ])
    (holding_yes (le_z count (pos 70368744177664)) near.1.le)

-- a point of the device is where its coordinates say
pub at_device : (x y : Real) (near_x : IsOnDevice x.count) (near_y : IsOnDevice y.count)
    → Ok (record { x = x; y = y; near_x = near_x; near_y = near_y }) ≡ device_point x y
at_device x y near_x near_y = sym
    (ap (λ (o : Option (IsOnDevice x.count)). elim o [
      | None ↦ Err LimitCheck
      | Some a ↦
          elim (on_device y.count) [ None ↦ Err LimitCheck | Some b ↦ Ok (record { x = x; y = y; near_x = a; near_y = b }) ]
    ])
    (on_device_yes x.count near_x)
    ∙ ap (λ (o : Option (IsOnDevice y.count)). elim o [ None ↦ Err LimitCheck | Some b ↦ Ok (record { x = x; y = y; near_x = near_x; near_y = b }) ])
    (on_device_yes y.count near_y))

-- an image under a matrix, on the device
pub placed_there : (m : Matrix) (x y : Real) (image : Result (Real × Real) Undefined) (answer : Result (Real × Real) ErrorName) (point : Real × Real) (r : Result DevicePoint ErrorName)
    → image ≡ image_of m x y → answer ≡ defined image → answer ≡ Ok point → r ≡ device_point point.0 point.1 → r ≡ placed m x y
placed_there m x y image answer point r i a p d =
    d ∙ ap (λ (o : Result (Real × Real) ErrorName). elim o [ Err e ↦ Err e | Ok q ↦ device_point q.0 q.1 ]) (sym p ∙ a ∙ ap defined i)
