-- Points of curves, and points in 1/256 pixel.
use Rattle.std.specs.Prelude.{ℕ, ℤ, pos, negsuc, ◌-◌, ◌*◌, ◌+ℤ◌, ◌*ℤ◌, Bool, true, false, T, Option, Some, None}
use Rattle.std.specs.Int.Signed.{le_z}
use Rattle.ps_shapes.specs.Near.{IsNear, IsOnDevice}
use Rattle.ps_shapes.specs.declared.path.DevicePoint.{DevicePoint}
use Rattle.ps_shapes.specs.declared.polygon.Point.{Point}
use Rattle.ps_fixed.specs.Rounding.{nearest_quotient}

-- that a test holds, where it does
abbrev pub holding : (test : Bool) → Option (T test)
holding true = Some tt
holding false = None

-- that a count lies within 2^46 of 0, where it does
abbrev pub on_device : (count : ℤ) → Option (IsOnDevice count)
on_device count =
    elim (holding (le_z (negsuc 70368744177663) count)) [
      | None ↦ None
      | Some low ↦
          elim (holding (le_z count (pos 70368744177664))) [ None ↦ None | Some high ↦ Some (record { le = low }, record { le = high }) ]
    ]

-- that a coordinate lies within 2^30 of 0, where it does
abbrev pub near : (z : ℤ) → Option (IsNear z)
near z =
    elim (holding (le_z (negsuc 1073741823) z)) [
      | None ↦ None
      | Some low ↦
          elim (holding (le_z z (pos 1073741824))) [ None ↦ None | Some high ↦ Some (record { le = low }, record { le = high }) ]
    ]

-- the Bernstein sum at part/32, in 1/32768 of a count
abbrev pub bernstein_sum : ℕ → ℤ → ℤ → ℤ → ℤ → ℤ
bernstein_sum part a b c d =
    pos ((32 - part) * (32 - part) * (32 - part)) *ℤ a
    +ℤ pos (3 * part * (32 - part) * (32 - part)) *ℤ b
    +ℤ pos (3 * part * part * (32 - part)) *ℤ c
    +ℤ pos (part * part * part) *ℤ d

-- a coordinate at part/32 of a curve, to the nearest count
unfoldable pub coordinate : ℕ → ℤ → ℤ → ℤ → ℤ → ℤ
coordinate part a b c d = nearest_quotient (bernstein_sum part a b c d) 32768

-- the point of the device with these coordinates; where they would lie outside, which a curve's never do, the other point
abbrev pub device_point_or : DevicePoint → ℤ → ℤ → DevicePoint
device_point_or other x y =
    elim (on_device x) [
      | None ↦ other
      | Some near_x ↦
          elim (on_device y) [
            | None ↦ other
            | Some near_y ↦
                record { x = record { count = x }; y = record { count = y }; near_x = near_x; near_y = near_y }
          ]
    ]

-- the point at part/32 of the curve
unfoldable pub curve_point : ℕ → DevicePoint → DevicePoint → DevicePoint → DevicePoint → DevicePoint
curve_point part a b c d =
    device_point_or d (coordinate part a.x.count b.x.count c.x.count d.x.count) (coordinate part a.y.count b.y.count c.y.count d.y.count)

-- a coordinate in 1/256 pixel: the greatest whole number not above count / 2^16 + 1/2
unfoldable pub rounded : ℤ → ℤ
rounded count = nearest_quotient count 65536

-- the page's upper left corner
abbrev pub corner : Point
corner = record { x = pos 0; y = pos 0; near_x = (record { le = tt }, record { le = tt }); near_y = (record { le = tt }, record { le = tt }) }

-- the point with these coordinates; where they would lie outside, which a rounded point's never do, the corner
abbrev pub point_or_corner : ℤ → ℤ → Point
point_or_corner x y =
    elim (near x) [
      | None ↦ corner
      | Some near_x ↦
          elim (near y) [ None ↦ corner | Some near_y ↦ record { x = x; y = y; near_x = near_x; near_y = near_y } ]
    ]

-- a point in 1/256 pixel
unfoldable pub pixel_point : DevicePoint → Point
pixel_point p = point_or_corner (rounded p.x.count) (rounded p.y.count)
