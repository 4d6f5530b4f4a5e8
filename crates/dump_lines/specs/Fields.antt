-- The fields of a graphics state that differ from the start's.
use Rattle.std.specs.Prelude.{ℕ, List, [], ◌++◌, codes, if◌then◌else◌}
use Rattle.std.specs.Fmt.{decimal}
use Rattle.std.specs.Str.{bytes_eq}
use Rattle.ps_kinds.specs.declared.graphics.GState.{GState}
use Rattle.dump_lines.specs.Objects.{object_text, truth_text}
use Rattle.dump_lines.specs.Values.{cap_text, clips_text, count_text, first_of, fourth_of, join_text, lengths_text, matrix_text, path_text, second_of, space_text, third_of, thresholds_text}

-- a name and a value, where the value isn't the start's
abbrev pub field : List ℕ → List ℕ → List ℕ → List ℕ
field name now before = if bytes_eq now before then [] else codes " " ++ name ++ codes " " ++ now

-- where it is painted
abbrev pub area_fields : GState → GState → List ℕ
area_fields g o =
    field (codes "ctm") (matrix_text g.ctm) (matrix_text o.ctm)
    ++ field (codes "path") (path_text g.path) (path_text o.path)
    ++ field (codes "clips") (clips_text g.clips) (clips_text o.clips)

-- the colour
abbrev pub colour_fields : GState → GState → List ℕ
colour_fields g o =
    field (codes "space") (space_text g.colour) (space_text o.colour)
    ++ field (codes "c0") (count_text (first_of g.colour)) (count_text (first_of o.colour))
    ++ field (codes "c1") (count_text (second_of g.colour)) (count_text (second_of o.colour))
    ++ field (codes "c2") (count_text (third_of g.colour)) (count_text (third_of o.colour))
    ++ field (codes "c3") (count_text (fourth_of g.colour)) (count_text (fourth_of o.colour))

-- how lines look
abbrev pub line_fields : GState → GState → List ℕ
line_fields g o =
    field (codes "width") (count_text g.width) (count_text o.width)
    ++ field (codes "cap") (cap_text g.cap) (cap_text o.cap)
    ++ field (codes "join") (join_text g.join) (join_text o.join)
    ++ field (codes "miter") (count_text g.miter) (count_text o.miter)

-- how lines are dashed
abbrev pub dash_fields : GState → GState → List ℕ
dash_fields g o =
    field (codes "dash") (object_text g.dash) (object_text o.dash)
    ++ field (codes "offset") (count_text g.offset) (count_text o.offset)
    ++ field (codes "lengths") (lengths_text g.lengths) (lengths_text o.lengths)

-- what is told, and has no effect
abbrev pub told_fields : GState → GState → List ℕ
told_fields g o =
    field (codes "flat") (count_text g.flat) (count_text o.flat)
    ++ field (codes "adjust") (truth_text g.adjust) (truth_text o.adjust)
    ++ field (codes "frequency") (count_text g.frequency) (count_text o.frequency)
    ++ field (codes "angle") (count_text g.angle) (count_text o.angle)

-- the objects of screens
abbrev pub screen_fields : GState → GState → List ℕ
screen_fields g o =
    field (codes "spot") (object_text g.spot) (object_text o.spot)
    ++ field (codes "transfer") (object_text g.transfer) (object_text o.transfer)
    ++ field (codes "halftone") (object_text g.halftone) (object_text o.halftone)
    ++ field (codes "thresholds") (thresholds_text g.thresholds) (thresholds_text o.thresholds)

-- the font, and the page's size
abbrev pub page_fields : GState → GState → List ℕ
page_fields g o =
    field (codes "font") (object_text g.font) (object_text o.font)
    ++ field (codes "wide") (decimal g.wide) (decimal o.wide)
    ++ field (codes "high") (decimal g.high) (decimal o.high)

-- all fields in their order
unfoldable pub state_fields : GState → GState → List ℕ
state_fields g o =
    area_fields g o ++ colour_fields g o ++ line_fields g o ++ dash_fields g o ++ told_fields g o ++ screen_fields g o ++ page_fields g o
