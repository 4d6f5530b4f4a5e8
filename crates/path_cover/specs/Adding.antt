-- What is added to edges and to spans.
use Rattle.std.specs.Prelude.{◌≡◌, ℕ, ◌+◌, ◌<◌, ◌≤◌, Bool, ◌&&◌, ◌||◌, List, count_by, nat_eq, nat_le, nat_lt, length, slice_index_or, true, false}
use Rattle.ps_shapes.specs.declared.span.Span.{Span}
use Rattle.ps_shapes.specs.Span.{is_in}
use Rattle.path_cover.specs.declared.crossing.Crossing.{Crossing}
use Rattle.path_cover.specs.declared.edge.Edge.{Edge}
use Rattle.path_cover.specs.Cover.{is_inside}
use Rattle.path_cover.specs.Marks.{marks, crosses, marked}
use Rattle.path_cover.specs.Scattered.{IsScattered}

-- on a paper of this size the spans hold the pixels that pass the test, and no others
abbrev pub HoldsExactly : (width height : ℕ) → (ℕ → ℕ → Bool) → List Span → Type 0
HoldsExactly width height test spans = (x y : ℕ) → x < width → y < height → is_in spans x y ≡ test x y

-- the new spans hold the pixels of the old ones and those that the edges make inside
abbrev pub AddsMarked : (odd : Bool) → List Edge → (width height : ℕ) → List Span → List Span → Type 0
AddsMarked odd edges width height old new = HoldsExactly width height (λ x y. is_in old x y || marked odd edges x y) new

-- the new spans hold the pixels of the old ones and those of a row that pass the test
abbrev pub AddsInRow : (row width : ℕ) → (ℕ → Bool) → List Span → List Span → Type 0
AddsInRow row width test old new = (x y : ℕ) → x < width → is_in new x y ≡ (is_in old x y || (nat_eq row y && test x))

-- the new spans hold the pixels of the old ones, and those of a row between two columns where that gap is inside
abbrev pub AddsGap : (row first past : ℕ) → (inside : Bool) → List Span → List Span → Type 0
AddsGap row first past inside old new = (x y : ℕ) → is_in new x y ≡ (is_in old x y || (nat_eq row y && (nat_le first x && nat_lt x past) && inside))

-- spans that lie on a paper lie there with what was added
abbrev pub StaysOnPaper : (width height : ℕ) → List Span → List Span → Type 0
StaysOnPaper width height old new = IsScattered width height old → IsScattered width height new

-- the same on each paper that has the row
abbrev pub StaysWithRow : (row width : ℕ) → List Span → List Span → Type 0
StaysWithRow row width old new = (height : ℕ) → row < height → StaysOnPaper width height old new

-- at each pixel above a height the edges count by so much more
abbrev pub CountsMore : (height : ℕ) → (Bool → ℕ → ℕ → ℕ) → List Edge → List Edge → Type 0
CountsMore height more old new = (down : Bool) (x y : ℕ) → y < height → count_by (marks down x y) new ≡ count_by (marks down x y) old + more down x y

-- at each pixel of a row, or below it, the edges count the same
abbrev pub CountsTheSame : (row : ℕ) → List Edge → List Edge → Type 0
CountsTheSame row old new = (down : Bool) (x y : ℕ) → row ≤ y → count_by (marks down x y) new ≡ count_by (marks down x y) old

-- in each column two lists of crossings count the same
abbrev pub CrossesTheSame : List Crossing → List Crossing → Type 0
CrossesTheSame old new = (down : Bool) (x : ℕ) → count_by (crosses down x) new ≡ count_by (crosses down x) old

-- in each column the crossings count as the edges do at the pixels of the row
abbrev pub CrossWhere : (width row : ℕ) → List Edge → List Crossing → Type 0
CrossWhere width row edges crossings = (down : Bool) (x : ℕ) → x < width → count_by (crosses down x) crossings ≡ count_by (marks down x row) edges

-- what the edges in hand and those still to come count together
abbrev pub count_of_both : Bool → ℕ → ℕ → List Edge → List Edge → ℕ
count_of_both down x y active rest = count_by (marks down x y) active + count_by (marks down x y) rest

-- edges pass from those to come to those in hand, and together count the same
abbrev pub CountsOn : List Edge → List Edge → List Edge → List Edge → Type 0
CountsOn active rest active_new rest_new = (down : Bool) (x y : ℕ) → count_of_both down x y active_new rest_new ≡ count_of_both down x y active rest

-- the same at each pixel of a row, or below it
abbrev pub CountsOnFrom : (row : ℕ) → List Edge → List Edge → List Edge → List Edge → Type 0
CountsOnFrom row active rest active_new rest_new = (down : Bool) (x y : ℕ) → row ≤ y → count_of_both down x y active_new rest_new ≡ count_of_both down x y active rest

-- none of the edges passes the row
abbrev pub PassesNot : (row : ℕ) → List Edge → Type 0
PassesNot row edges = (down : Bool) (x : ℕ) → count_by (marks down x row) edges ≡ 0

-- the edges in hand and those to come together make the pixel of column x of the row inside
abbrev pub is_inside_both : (odd : Bool) → (row : ℕ) → List Edge → List Edge → ℕ → Bool
is_inside_both odd row active rest x = is_inside odd (count_of_both true x row active rest) (count_of_both false x row active rest)

-- no edge begins above the row
abbrev pub IsAboveAll : ℕ → List Edge → Type 0
IsAboveAll row edges = (k : ℕ) (d : Edge) → k < length edges → row ≤ (slice_index_or edges k d).first
