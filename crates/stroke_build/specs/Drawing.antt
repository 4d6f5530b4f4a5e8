-- What drawing polygons does.
use Rattle.std.specs.Prelude.{◌≡◌, true, false, List, ◌++◌, Result, Ok, Err}
use Rattle.ps_shapes.specs.declared.polygon.Point.{Point}
use Rattle.stroke_build.specs.declared.corner.Corner.{Corner}
use Rattle.path_flat.specs.declared.refusal.FlatRefusal.{FlatRefusal}
use Rattle.path_flat.specs.declared.refusal.FlatRefusal.TheVariants as refusal
use Rattle.stroke_build.specs.Corners.{is_near_polygon, are_near, corners_of, places}

-- why polygons aren't drawn: Limit where a corner of one is too far
abbrev pub Refuses : List (List Corner) → FlatRefusal → Type 0
Refuses polygons refusal.Limit = are_near polygons ≡ false
Refuses polygons refusal.NoMemory = Unit {0}

-- the polygons are drawn behind the old ones, or refused
abbrev pub Draws : {A : Type 0} → List (List Corner) → List (List Point) → List (List Point) → Result A FlatRefusal → Type 0
Draws polygons old new (Ok done) = places new ≡ places old ++ polygons
Draws polygons old new (Err e) = Refuses polygons e

-- the polygon with these corners; Limit where one is too far
abbrev pub Makes : List Corner → Result (List Point) FlatRefusal → Type 0
Makes corners (Ok polygon) = corners_of polygon ≡ corners
Makes corners (Err refusal.Limit) = is_near_polygon corners ≡ false
Makes corners (Err refusal.NoMemory) = Unit {0}

-- exactly these polygons, all corners of which are near enough, or they are refused
abbrev pub Outlines : List (List Corner) → Result (List (List Point)) FlatRefusal → Type 0
Outlines polygons (Ok drawn) = (places drawn ≡ polygons) × (are_near polygons ≡ true)
Outlines polygons (Err e) = Refuses polygons e
