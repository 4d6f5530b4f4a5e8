-- Outlines drawn part by part.
use Rattle.std.proofs.Common.{◌≡◌, ℕ, ◌+◌, ◌-◌, ◌<◌, ◌≤◌, ◌&&◌, ap₂, Bool, true, false, List, [], ◌∷◌, ◌++◌, length, get_or, take, drop, refl, ap, subst, sym, ◌∙◌, append_assoc, arith}
use Rattle.std.specs.Prelude.{Result, Err, map, pos, negsuc, int_le, T}
use Rattle.std.proofs.lemmas.List.{append-nil, take_all}
use Rattle.ps_shapes.specs.declared.polygon.Point.{Point}
use Rattle.stroke_build.specs.declared.corner.Corner.{Corner}
use Rattle.path_flat.specs.declared.refusal.FlatRefusal.{FlatRefusal}
use Rattle.path_flat.specs.declared.refusal.FlatRefusal.TheVariants as refusal
use Rattle.stroke_build.specs.declared.pen.Pen.{Pen}
use Rattle.stroke_build.specs.declared.side.Side.{Side}
use Rattle.path_flat.specs.declared.tracing.Subpath.{Subpath}
use Rattle.stroke_build.specs.declared.vector.Vector.{Vector}
use Rattle.stroke_build.specs.Corners.{are_near, places, is_near_corner, is_near_polygon, corners_of, corner_of}
use Rattle.stroke_build.specs.Drawing.{Draws, Refuses, Outlines}
use Rattle.std.specs.List.{range_with_len}
use Rattle.std.proofs.lemmas.List.FromFn.{map-range_with_len_more}
use Rattle.stroke_build.specs.Sides.{sides}
use Rattle.stroke_build.specs.Outlines.{side_polygon, ring_corner, ring, join, joins, outline_along, outline, outlines_by, outlines, caps, ends}
use Rattle.stroke_build.proofs.Drawn.{far_front, far_back}
use Rattle.stroke_build.proofs.Walks.{drop_step, drop_past}

-- what is there and what is left make the whole; what is too far among what is left is too far in the whole
pub record IsLeft (now left old whole : List (List Corner)) : Type 0 where
  pub same : now ++ left ≡ old ++ whole
  pub far : are_near left ≡ false → are_near whole ≡ false

pub begun : (old whole : List (List Corner)) → IsLeft old whole old whole
begun old whole = record { same = refl; far = λ e. e }

pub gone_on : (now new left part rest old whole : List (List Corner)) → left ≡ part ++ rest → IsLeft now left old whole → new ≡ now ++ part → IsLeft new rest old whole
gone_on now new left part rest old whole split is e = record {
  same = ap (λ (l : List (List Corner)). l ++ rest) e ∙ append_assoc now part rest ∙ ap (λ (l : List (List Corner)). now ++ l) (sym split) ∙ is.same;
  far = λ f. is.far (ap are_near split ∙ far_back part rest f);
}

pub ended : (now left old whole : List (List Corner)) → left ≡ [] → IsLeft now left old whole → now ≡ old ++ whole
ended now left old whole e is = sym (append-nil now) ∙ ap (λ (l : List (List Corner)). now ++ l) (sym e) ∙ is.same

still_refused : (now left part rest old whole : List (List Corner)) (e : FlatRefusal) → left ≡ part ++ rest → IsLeft now left old whole → Refuses part e → Refuses whole e
still_refused now left part rest old whole refusal.Limit split is f = is.far (ap are_near split ∙ far_front part rest f)
still_refused now left part rest old whole refusal.NoMemory split is f = f

pub stopped : {A : Type 0} (now left part rest old whole : List (List Corner)) (before after : List (List Point)) (result : Result A FlatRefusal) (e : FlatRefusal) → result ≡ Err e → left ≡ part ++ rest → IsLeft now left old whole → Refuses part e → Draws whole before after result
stopped {A} now left part rest old whole before after result e is split walk f = subst (λ (r : Result A FlatRefusal). Draws whole before after r) (sym is) (still_refused now left part rest old whole e split walk f)

-- ---- the lists that are walked

pub sides_split : (sides : List Side) (i : ℕ) (s : Side) → i < length sides → s ≡ get_or sides i s → map side_polygon (drop i sides) ≡ (side_polygon s ∷ []) ++ map side_polygon (drop (i + 1) sides)
sides_split sides i s h is = ap (λ (l : List Side). map side_polygon l) (drop_step sides i s h is)

pub sides_past : (sides : List Side) (i : ℕ) → length sides ≤ i → map side_polygon (drop i sides) ≡ []
sides_past sides i h = ap (λ (l : List Side). map side_polygon l) (drop_past sides i h)

pub joins_split : (pen : Pen) (ring : List Vector) (a : Side) (sides : List Side) (i : ℕ) (b : Side) → i < length sides → b ≡ get_or sides i b → joins pen ring a (drop i sides) ≡ join pen ring a b ++ joins pen ring b (drop (i + 1) sides)
joins_split pen ring a sides i b h is = ap (λ (l : List Side). joins pen ring a l) (drop_step sides i b h is)

pub joins_past : (pen : Pen) (ring : List Vector) (a : Side) (sides : List Side) (i : ℕ) → length sides ≤ i → joins pen ring a (drop i sides) ≡ []
joins_past pen ring a sides i h = ap (λ (l : List Side). joins pen ring a l) (drop_past sides i h)

pub subpaths_split : (pen : Pen) (ring : List Vector) (subpaths : List Subpath) (i : ℕ) (s : Subpath) → i < length subpaths → s ≡ get_or subpaths i s → outlines_by pen ring (drop i subpaths) ≡ outline pen ring s ++ outlines_by pen ring (drop (i + 1) subpaths)
subpaths_split pen ring subpaths i s h is = ap (λ (l : List Subpath). outlines_by pen ring l) (drop_step subpaths i s h is)

pub subpaths_past : (pen : Pen) (ring : List Vector) (subpaths : List Subpath) (i : ℕ) → length subpaths ≤ i → outlines_by pen ring (drop i subpaths) ≡ []
subpaths_past pen ring subpaths i h = ap (λ (l : List Subpath). outlines_by pen ring l) (drop_past subpaths i h)

-- ---- the 32-gon

pub ring_more : (r j : ℕ) (now new : List Vector) → now ≡ map (ring_corner r) (range_with_len 0 j) → new ≡ now ++ ring_corner r j ∷ [] → new ≡ map (ring_corner r) (range_with_len 0 (j + 1))
ring_more r j now new was e = e ∙ ap (λ (l : List Vector). l ++ ring_corner r j ∷ []) was ∙ sym (map-range_with_len_more (ring_corner r) 0 j j (omega arith))

pub ring_none : (r : ℕ) → map (ring_corner r) (range_with_len 0 0) ≡ []
ring_none r = refl

-- ---- outlines

pub outline_is : (pen : Pen) (ring : List Vector) (subpath : Subpath) (all : List Side) → all ≡ sides pen.radius subpath.points subpath.closed → outline_along pen ring subpath all ≡ outline pen ring subpath
unfolding outline
outline_is pen ring subpath all e = ap (λ (l : List Side). outline_along pen ring subpath l) e

pub outlines_are : (pen : Pen) (r : List Vector) (subpaths : List Subpath) → r ≡ ring pen.radius → outlines_by pen r subpaths ≡ outlines pen subpaths
unfolding outlines
outlines_are pen r subpaths e = ap (λ (l : List Vector). outlines_by pen l subpaths) e

-- ---- ends

pub ends_open : (pen : Pen) (ring : List Vector) (closed : Bool) (a b : Side) → closed ≡ false → caps pen ring a b ≡ ends pen ring closed a b
ends_open pen ring true a b e = absurd (cc)
ends_open pen ring false a b e = refl

pub ends_closed : (pen : Pen) (ring : List Vector) (closed : Bool) (a b : Side) → closed ≡ true → join pen ring b a ≡ ends pen ring closed a b
ends_closed pen ring true a b e = refl
ends_closed pen ring false a b e = absurd (cc)

-- points are near enough

near_corner : (p : Point) → is_near_corner (corner_of p) ≡ true
near_corner p = by (int_le (negsuc 1073741823) p.x) (int_le p.x (pos 1073741824)) (int_le (negsuc 1073741823) p.y) (int_le p.y (pos 1073741824)) (known _ p.near_x.0.le) (known _ p.near_x.1.le) (known _ p.near_y.0.le) (known _ p.near_y.1.le)
  where
    known : (b : Bool) → T b → b ≡ true
    known true t = refl
    known false t = absurd t

    by : (a b c d : Bool) → a ≡ true → b ≡ true → c ≡ true → d ≡ true → ((a && b) && (c && d)) ≡ true
    by a b c d e f g h = ap₂ ◌&&◌ (ap₂ ◌&&◌ e f) (ap₂ ◌&&◌ g h)

near_polygon : (ps : List Point) → is_near_polygon (corners_of ps) ≡ true
near_polygon [] = refl
near_polygon (p ∷ ps) = ap₂ ◌&&◌ (near_corner p) (near_polygon ps)

all_near : (ps : List (List Point)) → are_near (places ps) ≡ true
all_near [] = refl
all_near (p ∷ ps) = ap₂ ◌&&◌ (near_polygon p) (all_near ps)

pub outlines_drawn : (polygons whole : List (List Corner)) (old new : List (List Point)) → polygons ≡ whole → old ≡ [] → places new ≡ places old ++ polygons → (places new ≡ whole) × (are_near whole ≡ true)
outlines_drawn polygons whole old new e none f =
    let is : places new ≡ whole = f ∙ ap (λ (l : List (List Point)). places l ++ polygons) none ∙ e in
    (is, ap are_near (sym is) ∙ all_near new)

pub outlines_refused : (polygons whole : List (List Corner)) (result : Result (List (List Point)) FlatRefusal) (e : FlatRefusal) → polygons ≡ whole → result ≡ Err e → Refuses polygons e → Outlines whole result
outlines_refused polygons whole result e same is f =
    subst (λ (r : Result (List (List Point)) FlatRefusal). Outlines whole r) (sym is) (subst (λ (l : List (List Corner)). Refuses l e) same f)

pub rest_of : (ss : List Side) → take (length ss - 1) (drop 1 ss) ≡ drop 1 ss
rest_of [] = refl
rest_of (s ∷ ss) = take_all (length (s ∷ ss) - 1) ss (omega arith)
