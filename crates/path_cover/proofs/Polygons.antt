-- Polygons taken together, and each alone.
use Rattle.std.proofs.Common.{◌≡◌, ℕ, ◌+◌, ◌<◌, ◌||◌, Bool, true, false, List, [], ◌∷◌, ◌++◌, length, get_or, take, refl, ap, sym, ◌∙◌}
use Rattle.std.specs.Prelude.{sum_by}
use Rattle.std.proofs.lemmas.List.{take_more}
use Rattle.std.proofs.lemmas.List.Sums.{sum_by_more}
use Rattle.std.proofs.lemmas.List.Folds.{list_any-append}
use Rattle.ps_shapes.specs.declared.polygon.Point.{Point}
use Rattle.path_cover.specs.Cover.{counted, is_inside, covers_one}

or_false : (b : Bool) → (b || false) ≡ b
or_false true = refl
or_false false = refl

pub any_more : (polygons : List (List Point)) (i : ℕ) (polygon : List Point) (x y : ℕ) → i < length polygons → polygon ≡ get_or polygons i polygon → covers_one (take (i + 1) polygons) x y ≡ (covers_one (take i polygons) x y || is_inside false (counted true x y polygon) (counted false x y polygon))
any_more polygons i polygon x y h is =
    let p : List Point → Bool = λ q. is_inside false (counted true x y q) (counted false x y q) in
    ap (λ (l : List (List Point)). covers_one l x y) (take_more polygons i polygon h ∙ ap (λ (q : List Point). take i polygons ++ q ∷ []) (sym is))
    ∙ list_any-append p (take i polygons) (polygon ∷ [])
    ∙ ap (λ b. covers_one (take i polygons) x y || b) (or_false (p polygon))

pub sum_more : (down : Bool) (x y : ℕ) (polygons : List (List Point)) (i : ℕ) (polygon : List Point) → i < length polygons → polygon ≡ get_or polygons i polygon → sum_by (counted down x y) (take (i + 1) polygons) ≡ sum_by (counted down x y) (take i polygons) + counted down x y polygon
sum_more down x y polygons i polygon h is =
    let e : sum_by (counted down x y) (take (i + 1) polygons) ≡ sum_by (counted down x y) (take i polygons) + counted down x y (get_or polygons i polygon) = sum_by_more (counted down x y) polygons i polygon h in
    e ∙ ap (λ (q : List Point). sum_by (counted down x y) (take i polygons) + counted down x y q) (sym is)
