-- What a sink gets of one page.
use Rattle.std.specs.Prelude.{ℕ, List, [], ◌∷◌, Option}
use Rattle.ps_shapes.specs.Sheet.{Sheet}
use Rattle.rip_ports.specs.Ports.{Appends, AppendsFront}
use Rattle.out_writers.specs.Texts.{pictures}

-- it holds its old bytes followed by the page's picture, where it tells them
abbrev pub Shows : Sheet → Option (List ℕ) → Option (List ℕ) → Type 0
Shows page old new = Appends (pictures (page ∷ [])) old new

-- it holds them followed by a front of the picture
abbrev pub ShowsFront : Sheet → Option (List ℕ) → Option (List ℕ) → Type 0
ShowsFront page old new = AppendsFront (pictures (page ∷ [])) old new
