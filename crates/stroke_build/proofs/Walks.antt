-- Walks along lists, by what is left.
use Rattle.std.proofs.Common.{◌≡◌, ℕ, zero, ◌+◌, ◌-◌, ◌<◌, ◌≤◌, ◌&&◌, suc, ap₂, not, Bool, true, false, List, [], ◌∷◌, ◌++◌, length, get_or, take, drop, refl, ap, sym, ◌∙◌, append_assoc, arith}
use Rattle.std.specs.Prelude.{ℤ, neg_ℤ, ◌-ℤ◌, slice_get}
use Rattle.std.proofs.lemmas.List.{append-nil, map-append, nil_from_length, length-drop, take_more}
use Rattle.std.proofs.Math.Seq.{drop-cons}
use Rattle.ps_shapes.specs.declared.polygon.Point.{Point}
use Rattle.stroke_build.specs.declared.corner.Corner.{Corner}
use Rattle.stroke_build.specs.declared.side.Side.{Side}
use Rattle.stroke_build.specs.Corners.{is_near_corner, is_near_polygon, corners_of, corner_of}
use Rattle.stroke_build.specs.Sides.{length_of, share, side_along, side, side_between, sides_after, sides_along, closing_side, sides}

pub drop_step : {A : Type 0} (xs : List A) (i : ℕ) (x : A) → i < length xs → x ≡ get_or xs i x → drop i xs ≡ x ∷ drop (i + 1) xs
drop_step {A} xs i x h is = drop-cons xs i x h ∙ ap (λ k. get_or xs i x ∷ drop k xs) (let e : suc i ≡ i + 1 = omega arith in e) ∙ ap (λ (y : A). y ∷ drop (i + 1) xs) (sym is)

pub drop_past : {A : Type 0} (xs : List A) (i : ℕ) → length xs ≤ i → drop i xs ≡ []
drop_past xs i h = nil_from_length (drop i xs) (length-drop i xs ∙ (let e : length xs - i ≡ 0 = omega arith in e))

-- ---- segments

pub side_added : (r : ℕ) (a : Point) (points : List Point) (i : ℕ) (b : Point) (now new whole : List Side) → i < length points → b ≡ get_or points i b → now ++ sides_after r a (drop i points) ≡ whole → new ≡ now ++ side_between r a b → new ++ sides_after r b (drop (i + 1) points) ≡ whole
side_added r a points i b now new whole h is was e =
    ap (λ (l : List Side). l ++ sides_after r b (drop (i + 1) points)) e
    ∙ append_assoc now (side_between r a b) (sides_after r b (drop (i + 1) points))
    ∙ ap (λ (l : List Point). now ++ sides_after r a l) (sym (drop_step points i b h is))
    ∙ was

pub sides_added : (r : ℕ) (a : Point) (points : List Point) (i : ℕ) (now whole : List Side) → length points ≤ i → now ++ sides_after r a (drop i points) ≡ whole → now ≡ whole
sides_added r a points i now whole h was = sym (append-nil now) ∙ ap (λ (l : List Point). now ++ sides_after r a l) (sym (drop_past points i h)) ∙ was

-- ---- the corners of one polygon

pub far_corner : (corners : List Corner) (i : ℕ) (c : Corner) → i < length corners → c ≡ get_or corners i c → is_near_corner c ≡ false → is_near_polygon corners ≡ false
far_corner [] i c h is e = absurd (omega arith)
far_corner (d ∷ ds) zero c h is e = by (is_near_corner d) (ap is_near_corner (sym is) ∙ e)
  where
    by : (b : Bool) → b ≡ false → (b && is_near_polygon ds) ≡ false
    by true f = absurd (cc)
    by false f = refl
far_corner (d ∷ ds) (suc i) c h is e = by (is_near_corner d) (far_corner ds i c (omega arith) is e)
  where
    by : (b : Bool) → is_near_polygon ds ≡ false → (b && is_near_polygon ds) ≡ false
    by true f = f
    by false f = refl

pub corner_more : (corners : List Corner) (i : ℕ) (c : Corner) (points new : List Point) (p : Point) → i < length corners → c ≡ get_or corners i c → corners_of points ≡ take i corners → corner_of p ≡ c → new ≡ points ++ p ∷ [] → corners_of new ≡ take (i + 1) corners
corner_more corners i c points new p h is was e f =
    ap corners_of f ∙ map-append corner_of points (p ∷ []) ∙ ap₂ (λ (l : List Corner) (d : Corner). l ++ d ∷ []) was (e ∙ is) ∙ sym (take_more corners i c h)

abbrev pub at : ℤ → ℤ → Corner
at x y = record { x = x; y = y }

pub corner_is : (a b c d : ℤ) → a ≡ b → c ≡ d → at a c ≡ at b d
corner_is a b c d e f = ap₂ at e f

-- ---- the segments of a subpath

pub sides_open : (r : ℕ) (points : List Point) (closed : Bool) (all : List Side) → closed ≡ false → all ≡ sides_along r (slice_get points 0) points → all ≡ sides r points closed
unfolding sides
sides_open r points true all e f = absurd (cc)
sides_open r points false all e f = f ∙ sym (append-nil (sides_along r (slice_get points 0) points))

pub sides_closed : (r : ℕ) (points : List Point) (closed : Bool) (now all : List Side) → closed ≡ true → now ≡ sides_along r (slice_get points 0) points → all ≡ now ++ closing_side r (slice_get points (length points - 1)) (slice_get points 0) → all ≡ sides r points closed
unfolding sides
sides_closed r points false now all e f g = absurd (cc)
sides_closed r points true now all e f g = g ∙ ap (λ (l : List Side). l ++ closing_side r (slice_get points (length points - 1)) (slice_get points 0)) f

abbrev pub made : Point → Point → ℕ → ℤ → ℤ → ℤ → ℤ → Side
made a b l ax ay nx ny = record { from = a; to = b; length = l; along = record { x = ax; y = ay }; normal = record { x = nx; y = ny } }

pub side_is : (r : ℕ) (a b : Point) (dx dy : ℤ) (l : ℕ) (ax ay nx ny : ℤ) → dx ≡ b.x -ℤ a.x → dy ≡ b.y -ℤ a.y → l ≡ length_of dx dy → ax ≡ share dx r l → ay ≡ share dy r l → nx ≡ share (neg_ℤ dy) r l → ny ≡ share dx r l → made a b l ax ay nx ny ≡ side r a b
unfolding side
side_is r a b dx dy l ax ay nx ny e f g p q s t =
    ap₂ (λ (x y : ℤ). made a b l x y nx ny) p q ∙ ap₂ (λ (x y : ℤ). made a b l (share dx r l) (share dy r l) x y) s t
    ∙ ap (λ (m : ℕ). side_along r a b dx dy m) g
    ∙ ap₂ (λ (x y : ℤ). side_along r a b x y (length_of x y)) e f

pub along_is : (r : ℕ) (old all : List Side) (points ps : List Point) → old ≡ [] → ps ≡ points → all ≡ old ++ sides_along r (slice_get ps 0) ps → all ≡ sides_along r (slice_get points 0) points
along_is r old all points ps e f g = g ∙ ap₂ (λ (o : List Side) (p : List Point). o ++ sides_along r (slice_get p 0) p) e f

pub closing_is : (r : ℕ) (now all : List Side) (points ps : List Point) → ps ≡ points → all ≡ now ++ closing_side r (slice_get ps (length ps - 1)) (slice_get ps 0) → all ≡ now ++ closing_side r (slice_get points (length points - 1)) (slice_get points 0)
closing_is r now all points ps f g = g ∙ ap (λ (p : List Point). now ++ closing_side r (slice_get p (length p - 1)) (slice_get p 0)) f

pub not_true : (b : Bool) → not b ≡ true → b ≡ false
not_true true e = absurd (cc)
not_true false e = refl

pub not_false : (b : Bool) → not b ≡ false → b ≡ true
not_false true e = refl
not_false false e = absurd (cc)

pub far_corner_at : (corners : List Corner) (i : ℕ) (d : Corner) → i < length corners → is_near_corner (get_or corners i d) ≡ false → is_near_polygon corners ≡ false
far_corner_at [] i d h e = absurd (omega arith)
far_corner_at (c ∷ cs) zero d h e = by (is_near_corner c) e
  where
    by : (b : Bool) → b ≡ false → (b && is_near_polygon cs) ≡ false
    by true f = absurd (cc)
    by false f = refl
far_corner_at (c ∷ cs) (suc i) d h e = by (is_near_corner c) (far_corner_at cs i d (omega arith) e)
  where
    by : (b : Bool) → is_near_polygon cs ≡ false → (b && is_near_polygon cs) ≡ false
    by true f = f
    by false f = refl
