-- Colours that are set and told (section 8.2 of the language manual).
use Rattle.std.specs.Prelude.{ℕ, List, [], ◌∷◌, drop}
use Rattle.ps_shapes.specs.declared.numbers.Real.{Real}
use Rattle.ps_objects.specs.Operands.{needed, room_for}
use Rattle.ps_objects.specs.declared.object.Kind.TheVariants as kind
use Rattle.ps_objects.specs.declared.object.Object.{Object}
use Rattle.ps_kinds.specs.declared.graphics.Colour.{Colour}
use Rattle.ps_kinds.specs.declared.graphics.Colour.TheVariants as colour
use Rattle.ps_kinds.specs.declared.graphics.GState.{GState}
use Rattle.ps_kinds.specs.declared.state.State.{State}
use Rattle.ps_memory.specs.Tree.{done}
use Rattle.ps_operator.specs.Tree.{Ask, read}
use Rattle.ps_operator.specs.Registers.{ops, literal, quiet, leaves}
use Rattle.real_operands.specs.Reals.{real_at}
use Rattle.colour_ops.specs.Colours.{cut, gray_of, rgb_of, cmyk_of}
use Rattle.colour_ops.specs.Glyphs.{settable}

-- with another graphics state in the place of n operands
abbrev pub with_state : State → ℕ → GState → State
with_state s n g =
    record s { regs = record s.regs { operands = drop n (ops s); state = g } }

-- ends with another graphics state in the place of n operands
abbrev pub sets : State → ℕ → GState → Ask
sets s n g = done [] (quiet (with_state s n g))

-- ends with another colour in the place of n operands
abbrev pub paints : State → ℕ → Colour → Ask
paints s n c = sets s n (record s.regs.state { colour = c })

-- a real as an object
abbrev pub real : Real → Object
real x = literal (kind.Real x)

-- ---- gray

-- n setgray
abbrev pub setgray : State → Ask
setgray s =
    read (needed 1 (ops s)) (λ _.
    read (real_at 0 (ops s)) (λ gray.
    read (settable s.frames) (λ _.
    paints s 1 (colour.Gray (cut gray)))))

-- currentgray n: how light the colour is
abbrev pub currentgray : State → Ask
currentgray s =
    read (room_for 1 (ops s)) (λ _.
    leaves s (real (gray_of s.regs.state.colour) ∷ ops s))

-- ---- red, green and blue

-- n n n setrgbcolor
abbrev pub setrgbcolor : State → Ask
setrgbcolor s =
    read (needed 3 (ops s)) (λ _.
    read (real_at 0 (ops s)) (λ blue.
    read (real_at 1 (ops s)) (λ green.
    read (real_at 2 (ops s)) (λ red.
    read (settable s.frames) (λ _.
    paints s 3 (colour.Rgb (cut red) (cut green) (cut blue)))))))

-- three reals, the last on top
abbrev pub pushes_rgb : Real × Real × Real → List Object → List Object
pushes_rgb c xs = real c.2 ∷ real c.1 ∷ real c.0 ∷ xs

-- currentrgbcolor n n n: the colour's red, green and blue
abbrev pub currentrgbcolor : State → Ask
currentrgbcolor s =
    read (room_for 3 (ops s)) (λ _.
    leaves s (pushes_rgb (rgb_of s.regs.state.colour) (ops s)))

-- ---- cyan, magenta, yellow and black

-- n n n n setcmykcolor
abbrev pub setcmykcolor : State → Ask
setcmykcolor s =
    read (needed 4 (ops s)) (λ _.
    read (real_at 0 (ops s)) (λ black.
    read (real_at 1 (ops s)) (λ yellow.
    read (real_at 2 (ops s)) (λ magenta.
    read (real_at 3 (ops s)) (λ cyan.
    read (settable s.frames) (λ _.
    paints s 4 (colour.Cmyk (cut cyan) (cut magenta) (cut yellow) (cut black))))))))

-- four reals, the last on top
abbrev pub pushes_cmyk : Real × Real × Real × Real → List Object → List Object
pushes_cmyk c xs = real c.3 ∷ real c.2 ∷ real c.1 ∷ real c.0 ∷ xs

-- currentcmykcolor n n n n: the colour's cyan, magenta, yellow and black
abbrev pub currentcmykcolor : State → Ask
currentcmykcolor s =
    read (room_for 4 (ops s)) (λ _.
    leaves s (pushes_cmyk (cmyk_of s.regs.state.colour) (ops s)))

-- ---- in the space of the colour

-- one of three, by a colour's space
abbrev pub by_space : Colour → Ask → Ask → Ask → Ask
by_space (colour.Gray g) gray rgb cmyk = gray
by_space (colour.Rgb r g b) gray rgb cmyk = rgb
by_space (colour.Cmyk c m y k) gray rgb cmyk = cmyk

-- n .. setcolor: as many components as the space has
abbrev pub setcolor : State → Ask
setcolor s = by_space s.regs.state.colour (setgray s) (setrgbcolor s) (setcmykcolor s)

-- currentcolor n ..: the components
abbrev pub currentcolor : State → Ask
currentcolor s =
    by_space s.regs.state.colour (currentgray s) (currentrgbcolor s) (currentcmykcolor s)
