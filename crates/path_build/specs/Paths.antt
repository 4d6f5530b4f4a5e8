-- Paths: the current point, the points that count, and what one more segment makes of a path.
use Rattle.std.specs.Prelude.{ℕ, ◌+◌, ◌-◌, Bool, true, false, nat_lt, nat_le, ◌&&◌, if◌then◌else◌, List, [], ◌∷◌, ◌++◌, length, take, reverse, slice_get, Option, Some, None, Result, Ok, Err}
use Rattle.ps_names.specs.declared.error_name.ErrorName.{ErrorName}
use Rattle.ps_names.specs.declared.error_name.ErrorName.TheVariants.{NoCurrentPoint, LimitCheck}
use Rattle.ps_shapes.specs.Path.{is_move}
use Rattle.ps_shapes.specs.declared.path.DevicePoint.{DevicePoint}
use Rattle.ps_shapes.specs.declared.path.Segment.{Segment}
use Rattle.ps_shapes.specs.declared.path.Segment.TheVariants.{Move, Line, Curve, Close}
use Rattle.path_build.specs.declared.paths.TheConstants.{POINT_LIMIT}

-- ---- the current point

-- the newest segment
abbrev pub newest_of : List Segment → Option Segment
newest_of path = slice_get path (length path - 1)

-- where a segment begins a subpath
abbrev pub begins : Segment → Option DevicePoint
begins (Move p) = Some p
begins (Line p) = None
begins (Curve p q r) = None
begins Close = None

-- the one point, or the other where there is none
abbrev pub point_or : Option DevicePoint → Option DevicePoint → Option DevicePoint
point_or None other = other
point_or (Some p) other = Some p

-- where the subpath began, of segments the newest first
abbrev pub start_behind : List Segment → Option DevicePoint
start_behind [] = None
start_behind (segment ∷ older) = point_or (begins segment) (start_behind older)

-- where a path ends, by its newest segment; a Close ends where its subpath began
abbrev pub end_of : Option Segment → List Segment → Option DevicePoint
end_of None path = None
end_of (Some (Move p)) path = Some p
end_of (Some (Line p)) path = Some p
end_of (Some (Curve p q r)) path = Some r
end_of (Some Close) path = start_behind (reverse path)

-- a point, where there is one
abbrev pub if_there : Option DevicePoint → Result DevicePoint ErrorName
if_there None = Err NoCurrentPoint
if_there (Some p) = Ok p

-- the current point
abbrev pub point_of : List Segment → Result DevicePoint ErrorName
point_of path = if_there (end_of (newest_of path) path)

-- there is a current point: a path that isn't empty has one
abbrev pub begun : List Segment → Result (Unit {0}) ErrorName
begun [] = Err NoCurrentPoint
begun (segment ∷ path) = Ok tt

-- ---- how many points

-- how many points of a segment count
abbrev pub points_of : Segment → ℕ
points_of (Move p) = 1
points_of (Line p) = 1
points_of (Curve p q r) = 3
points_of Close = 0

-- how many points of a path count
abbrev pub point_count : List Segment → ℕ
point_count [] = 0
point_count (segment ∷ path) = points_of segment + point_count path

-- the points of these segments are at most so many
abbrev pub has_few : ℕ → List Segment → Bool
has_few most [] = true
has_few most (segment ∷ path) = nat_le (points_of segment) most && has_few (most - points_of segment) path

-- n more points stay within the limit
abbrev pub point_room : ℕ → List Segment → Result (Unit {0}) ErrorName
point_room n path = if nat_lt POINT_LIMIT (point_count path + n) then Err LimitCheck else Ok tt

-- ---- one more segment

-- a Move
abbrev pub is_some_move : Option Segment → Bool
is_some_move None = false
is_some_move (Some segment) = is_move segment

-- a Move that another would replace
abbrev pub ends_in_move : List Segment → Bool
ends_in_move path = is_some_move (newest_of path)

-- a Move takes no room where it replaces another
abbrev pub move_room : List Segment → Result (Unit {0}) ErrorName
move_room path = if ends_in_move path then Ok tt else point_room 1 path

-- with another segment at the end
abbrev pub with_segment : List Segment → Segment → List Segment
with_segment path segment = path ++ segment ∷ []

-- a subpath begins: a Move after a Move replaces it
abbrev pub moved_to : List Segment → DevicePoint → List Segment
moved_to path p =
    if ends_in_move path then with_segment (take (length path - 1) path) (Move p)
    else with_segment path (Move p)

-- nothing is there to close: no segment, or a Close is the newest
abbrev pub is_closed : Option Segment → Bool
is_closed None = true
is_closed (Some Close) = true
is_closed (Some (Move p)) = false
is_closed (Some (Line p)) = false
is_closed (Some (Curve p q r)) = false

-- the subpath is closed: a Close after a Close isn't added, nor one to an empty path
abbrev pub closed : List Segment → List Segment
closed path = if is_closed (newest_of path) then path else with_segment path Close
