-- Colours in the device spaces, and what one is in the others (section 6.2 of the language manual). Components go from 0 to 1.
use Rattle.std.specs.Prelude.{ℤ, pos, ◌+ℤ◌, ◌-ℤ◌, ◌*ℤ◌, int_div, int_lt, if◌then◌else◌}
use Rattle.ps_shapes.specs.declared.numbers.Real.{Real}
use Rattle.ps_shapes.specs.declared.numbers.TheConstants.{ONE}
use Rattle.ps_kinds.specs.declared.graphics.Colour.{Colour}
use Rattle.ps_kinds.specs.declared.graphics.Colour.TheVariants as colour

-- the component 0
abbrev pub none : Real
none = record { count = pos 0 }

-- the component 1
abbrev pub full : Real
full = record { count = ONE }

-- a number as a component: what is below 0 is 0, and what is above 1 is 1
abbrev pub cut : Real → Real
cut x = if int_lt x.count (pos 0) then none else (if int_lt ONE x.count then full else x)

-- 1 - min(1, n), for so many counts
abbrev pub left_of_one : ℤ → Real
left_of_one n = if int_lt n ONE then record { count = ONE -ℤ n } else none

-- 1 - min(1, ink + black)
abbrev pub without : Real → Real → Real
without ink black = left_of_one (ink.count +ℤ black.count)

-- 30r + 59g, over counts
abbrev pub warm : Real → Real → ℤ
warm r g = pos 30 *ℤ r.count +ℤ pos 59 *ℤ g.count

-- 30r + 59g + 11b, over counts
abbrev pub weights : Real → Real → Real → ℤ
weights r g b = warm r g +ℤ pos 11 *ℤ b.count

-- a hundredth of a count, to the nearest: the sum with 50 is divided by 100
abbrev pub hundredth : ℤ → ℤ
hundredth n = int_div (n +ℤ pos 50) (pos 100)

-- how light red, green and blue are together
abbrev pub weighted : Real → Real → Real → Real
weighted r g b = record { count = hundredth (weights r g b) }

-- how light a colour is; the inks of a colour take the weights of the lights that they take away
abbrev pub gray_of : Colour → Real
gray_of (colour.Gray g) = g
gray_of (colour.Rgb r g b) = weighted r g b
gray_of (colour.Cmyk c m y k) = without (weighted c m y) k

-- red, green and blue of a colour
abbrev pub rgb_of : Colour → Real × Real × Real
rgb_of (colour.Gray g) = (g, g, g)
rgb_of (colour.Rgb r g b) = (r, g, b)
rgb_of (colour.Cmyk c m y k) = (without c k, without m k, without y k)

-- 1 less a component
abbrev pub rest : Real → Real
rest x = left_of_one x.count

-- cyan, magenta, yellow and black of a colour
abbrev pub cmyk_of : Colour → Real × Real × Real × Real
cmyk_of (colour.Gray g) = (none, none, none, rest g)
cmyk_of (colour.Rgb r g b) = (rest r, rest g, rest b, none)
cmyk_of (colour.Cmyk c m y k) = (c, m, y, k)
