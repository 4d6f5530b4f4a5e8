-- Operators on the clips and on the whole path (section 8.2 of the language manual), and what each leaves.
use Rattle.std.specs.Prelude.{ℕ, List, [], ◌∷◌, ◌++◌, length, drop, nat_lt, if◌then◌else◌, Result, Ok, Err}
use Rattle.ps_names.specs.declared.error_name.ErrorName.{ErrorName}
use Rattle.ps_names.specs.declared.error_name.ErrorName.TheVariants.{LimitCheck}
use Rattle.ps_shapes.specs.declared.clip.Clip.{Clip}
use Rattle.ps_shapes.specs.declared.path.Segment.{Segment}
use Rattle.ps_shapes.specs.declared.polygon.Rule.{Rule}
use Rattle.ps_shapes.specs.declared.polygon.Rule.TheVariants.{NonZero, EvenOdd}
use Rattle.ps_kinds.specs.declared.state.State.{State}
use Rattle.ps_memory.specs.Tree.{done}
use Rattle.ps_operator.specs.Registers.{ops, quiet}
use Rattle.ps_operator.specs.Tree.{Ask, read}
use Rattle.clip_ops.specs.Flats.{lines_of, polygons_of}

-- the current path
abbrev pub path_of : State → List Segment
path_of s = s.regs.state.path

-- the clips, the oldest first
abbrev pub clips_of : State → List Clip
clips_of s = s.regs.state.clips

-- ends with other clips and another path, and without the newest n operands
abbrev pub shows : State → ℕ → List Clip → List Segment → Ask
shows s n clips path =
    done []
    (quiet (record s { regs = record s.regs { operands = drop n (ops s); state = record s.regs.state { clips = clips; path = path } } }))

-- one more clip: there are 32 at most
abbrev pub clip_room : List Clip → Result (Unit {0}) ErrorName
clip_room clips = if nat_lt (length clips) 32 then Ok tt else Err LimitCheck

-- flattenpath: each curve becomes 32 lines
abbrev pub flattenpath : State → Ask
flattenpath s = read (lines_of (path_of s)) (λ path. shows s 0 (clips_of s) path)

-- initclip: nothing is clipped
abbrev pub initclip : State → Ask
initclip s = shows s 0 [] (path_of s)

-- the path's polygons become a clip, and the path stays
abbrev pub clipped_by : Rule → State → Ask
clipped_by rule s =
    read (polygons_of (path_of s)) (λ polygons.
    read (clip_room (clips_of s)) (λ _.
    shows s 0 (clips_of s ++ record { rule = rule; polygons = polygons } ∷ []) (path_of s)))

-- clip: by the nonzero winding number
abbrev pub clip : State → Ask
clip = clipped_by NonZero

-- eoclip: by the even-odd rule
abbrev pub eoclip : State → Ask
eoclip = clipped_by EvenOdd
