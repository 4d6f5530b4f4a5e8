-- The scale of the default matrix.
use Rattle.std.specs.Prelude.{◌≡◌, ℕ, ◌<◌, ◌^◌, Ok}
use Rattle.ps_fixed.specs.Arithmetic.{quotient_of}
use Rattle.ps_meaning.specs.Start.{whole_real, scale_of}

-- the quotient that defines the scale is never undefined
abbrev pub ScaleLaw : Type 0
ScaleLaw = (dpi : ℕ) → dpi < 2 ^ 32 → quotient_of (whole_real dpi) (whole_real 72) ≡ Ok (scale_of dpi)
