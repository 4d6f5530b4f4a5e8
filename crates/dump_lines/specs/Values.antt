-- The values of the fields of a graphics state.
use Rattle.std.specs.Prelude.{ℕ, pos, List, [], ◌∷◌, ◌++◌, codes, flat_map}
use Rattle.std.specs.Fmt.{decimal, signed_decimal}
use Rattle.ps_shapes.specs.Screen.{Screen}
use Rattle.ps_shapes.specs.declared.clip.Clip.{Clip}
use Rattle.ps_shapes.specs.declared.numbers.Matrix.{Matrix}
use Rattle.ps_shapes.specs.declared.numbers.Real.{Real}
use Rattle.ps_shapes.specs.declared.path.DevicePoint.{DevicePoint}
use Rattle.ps_shapes.specs.declared.path.Segment.{Segment}
use Rattle.ps_shapes.specs.declared.path.Segment.TheVariants as segment
use Rattle.ps_shapes.specs.declared.polygon.Point.{Point}
use Rattle.ps_shapes.specs.declared.polygon.Rule.{Rule}
use Rattle.ps_shapes.specs.declared.polygon.Rule.TheVariants as rule
use Rattle.ps_kinds.specs.declared.graphics.Colour.{Colour}
use Rattle.ps_kinds.specs.declared.graphics.Colour.TheVariants as colour
use Rattle.ps_kinds.specs.declared.ranges.LineCap.{LineCap}
use Rattle.ps_kinds.specs.declared.ranges.LineCap.TheVariants as cap
use Rattle.ps_kinds.specs.declared.ranges.LineJoin.{LineJoin}
use Rattle.ps_kinds.specs.declared.ranges.LineJoin.TheVariants as join
use Rattle.dump_lines.specs.Hex.{hex}

-- texts behind a space each
abbrev pub spaced : {X : Type 0} → (X → List ℕ) → List X → List ℕ
spaced f xs = flat_map (λ x. codes " " ++ f x) xs

-- texts with a space between them
abbrev pub parted : {X : Type 0} → (X → List ℕ) → List X → List ℕ
parted f [] = []
parted f (x ∷ xs) = f x ++ spaced f xs

-- a list
abbrev pub bracketed : {X : Type 0} → (X → List ℕ) → List X → List ℕ
bracketed f xs = codes "[" ++ parted f xs ++ codes "]"

-- a real as its count
abbrev pub count_text : Real → List ℕ
count_text r = signed_decimal r.count

-- a matrix as its six counts
abbrev pub matrix_text : Matrix → List ℕ
matrix_text m = bracketed count_text (m.a ∷ m.b ∷ m.c ∷ m.d ∷ m.tx ∷ m.ty ∷ [])

-- a point of a path as two counts
abbrev pub point_text : DevicePoint → List ℕ
point_text p = count_text p.x ++ codes " " ++ count_text p.y

-- a segment as its letter and its points
abbrev pub segment_text : Segment → List ℕ
segment_text (segment.Move p) = codes "m " ++ point_text p
segment_text (segment.Line p) = codes "l " ++ point_text p
segment_text (segment.Curve p q r) = codes "c " ++ point_text p ++ codes " " ++ point_text q ++ codes " " ++ point_text r
segment_text segment.Close = codes "z"

-- a path as the list of its segments
abbrev pub path_text : List Segment → List ℕ
path_text segments = bracketed segment_text segments

-- a corner in 1/256 pixel
abbrev pub corner_text : Point → List ℕ
corner_text p = signed_decimal p.x ++ codes " " ++ signed_decimal p.y

-- a polygon as the list of its corners
abbrev pub polygon_text : List Point → List ℕ
polygon_text corners = bracketed corner_text corners

-- nonzero winding, or even and odd, or inside of any polygon
abbrev pub rule_text : Rule → List ℕ
rule_text rule.NonZero = codes "n"
rule_text rule.EvenOdd = codes "e"
rule_text rule.AnyOf = codes "a"

-- a clip as its letter and a list for each polygon
abbrev pub clip_text : Clip → List ℕ
clip_text c = rule_text c.rule ++ spaced polygon_text c.polygons

-- the list of the clips
abbrev pub clips_text : List Clip → List ℕ
clips_text clips = bracketed clip_text clips

-- the name of a colour space
abbrev pub space_text : Colour → List ℕ
space_text (colour.Gray g) = codes "/DeviceGray"
space_text (colour.Rgb r g b) = codes "/DeviceRGB"
space_text (colour.Cmyk c m y k) = codes "/DeviceCMYK"

-- no colour
abbrev pub no_ink : Real
no_ink = record { count = pos 0 }

-- the first component
abbrev pub first_of : Colour → Real
first_of (colour.Gray g) = g
first_of (colour.Rgb r g b) = r
first_of (colour.Cmyk c m y k) = c

-- the second component, 0 where the space has none
abbrev pub second_of : Colour → Real
second_of (colour.Gray g) = no_ink
second_of (colour.Rgb r g b) = g
second_of (colour.Cmyk c m y k) = m

-- the third component
abbrev pub third_of : Colour → Real
third_of (colour.Gray g) = no_ink
third_of (colour.Rgb r g b) = b
third_of (colour.Cmyk c m y k) = y

-- the fourth component
abbrev pub fourth_of : Colour → Real
fourth_of (colour.Gray g) = no_ink
fourth_of (colour.Rgb r g b) = no_ink
fourth_of (colour.Cmyk c m y k) = k

-- a cap as the number that `setlinecap` takes
abbrev pub cap_text : LineCap → List ℕ
cap_text cap.Butt = codes "0"
cap_text cap.Round = codes "1"
cap_text cap.Square = codes "2"

-- a join as the number that `setlinejoin` takes
abbrev pub join_text : LineJoin → List ℕ
join_text join.Miter = codes "0"
join_text join.Round = codes "1"
join_text join.Bevel = codes "2"

-- the lengths of a dash pattern
abbrev pub lengths_text : List Real → List ℕ
lengths_text lengths = bracketed count_text lengths

-- thresholds as the width, the height and the bytes in hex
abbrev pub thresholds_text : Screen → List ℕ
thresholds_text s = decimal s.width ++ codes " " ++ decimal s.height ++ codes " " ++ hex s.bytes
