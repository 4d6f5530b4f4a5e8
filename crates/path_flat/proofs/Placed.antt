-- Points that lie where their coordinates say.
use Rattle.std.proofs.Common.{◌≡◌, ℕ, ℤ, pos, negsuc, Bool, true, false, T, Option, Some, None, refl, ap, ap₂, sym, ◌∙◌}
use Rattle.std.specs.Int.Signed.{le_z}
use Rattle.ps_shapes.specs.Near.{IsNear, IsOnDevice}
use Rattle.ps_shapes.specs.declared.path.DevicePoint.{DevicePoint}
use Rattle.path_flat.specs.Curves.{holding, on_device, near, device_point_or, point_or_corner, corner, coordinate, curve_point, rounded, pixel_point}

holding_yes : (test : Bool) (p : T test) → holding test ≡ Some p
holding_yes true tt = refl
holding_yes false p = absurd p

on_device_yes : (count : ℤ) (here : IsOnDevice count) → on_device count ≡ Some here
on_device_yes count here =
    ap (λ (o : Option (T (le_z (negsuc 70368744177663) count))). elim o [
      | None ↦ None
      | Some low ↦
          elim (holding (le_z count (pos 70368744177664))) [ None ↦ None | Some high ↦ Some (record { le = low }, record { le = high }) ]
    ])
    (holding_yes (le_z (negsuc 70368744177663) count) here.0.le)
    ∙ ap (λ (o : Option (T (le_z count (pos 70368744177664)))). elim o [ None ↦ None | Some high ↦ Some (here.0, record { le = high }) ])
    (holding_yes (le_z count (pos 70368744177664)) here.1.le)

near_yes : (z : ℤ) (here : IsNear z) → near z ≡ Some here
near_yes z here =
    ap (λ (o : Option (T (le_z (negsuc 1073741823) z))). elim o [
      | None ↦ None
      | Some low ↦
          elim (holding (le_z z (pos 1073741824))) [ None ↦ None | Some high ↦ Some (record { le = low }, record { le = high }) ]
    ])
    (holding_yes (le_z (negsuc 1073741823) z) here.0.le)
    ∙ ap (λ (o : Option (T (le_z z (pos 1073741824)))). elim o [ None ↦ None | Some high ↦ Some (here.0, record { le = high }) ])
    (holding_yes (le_z z (pos 1073741824)) here.1.le)

pub at_device : (other : DevicePoint) (x y : ℤ) (near_x : IsOnDevice x) (near_y : IsOnDevice y)
    → record { x = record { count = x }; y = record { count = y }; near_x = near_x; near_y = near_y } ≡ device_point_or other x y
at_device other x y near_x near_y = sym
    (ap (λ (o : Option (IsOnDevice x)). elim o [
      | None ↦ other
      | Some a ↦
          elim (on_device y) [
            | None ↦ other
            | Some b ↦ record { x = record { count = x }; y = record { count = y }; near_x = a; near_y = b }
          ]
    ])
    (on_device_yes x near_x)
    ∙ ap (λ (o : Option (IsOnDevice y)). elim o [
      | None ↦ other
      | Some b ↦ record { x = record { count = x }; y = record { count = y }; near_x = near_x; near_y = b }
    ])
    (on_device_yes y near_y))

pub at_pixel : (x y : ℤ) (near_x : IsNear x) (near_y : IsNear y) → record { x = x; y = y; near_x = near_x; near_y = near_y } ≡ point_or_corner x y
at_pixel x y near_x near_y = sym
    (ap (λ (o : Option (IsNear x)). elim o [
      | None ↦ corner
      | Some a ↦
          elim (near y) [ None ↦ corner | Some b ↦ record { x = x; y = y; near_x = a; near_y = b } ]
    ])
    (near_yes x near_x)
    ∙ ap (λ (o : Option (IsNear y)). elim o [ None ↦ corner | Some b ↦ record { x = x; y = y; near_x = near_x; near_y = b } ])
    (near_yes y near_y))

-- the point with a curve's coordinates is the curve's point
pub curve_here : (part : ℕ) (a b c d : DevicePoint) (x y : ℤ) (near_x : IsOnDevice x) (near_y : IsOnDevice y)
    → x ≡ coordinate part a.x.count b.x.count c.x.count d.x.count → y ≡ coordinate part a.y.count b.y.count c.y.count d.y.count
    → record { x = record { count = x }; y = record { count = y }; near_x = near_x; near_y = near_y } ≡ curve_point part a b c d
unfolding curve_point
curve_here part a b c d x y near_x near_y e f = at_device d x y near_x near_y ∙ ap₂ (device_point_or d) e f

-- the point with a point's rounded coordinates is that point in 1/256 pixel
pub pixel_here : (p : DevicePoint) (x y : ℤ) (near_x : IsNear x) (near_y : IsNear y)
    → x ≡ rounded p.x.count → y ≡ rounded p.y.count → record { x = x; y = y; near_x = near_x; near_y = near_y } ≡ pixel_point p
unfolding pixel_point
pixel_here p x y near_x near_y e f = at_pixel x y near_x near_y ∙ ap₂ point_or_corner e f
