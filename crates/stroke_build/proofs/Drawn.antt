-- Polygons drawn one after the other.
use Rattle.std.proofs.Common.{◌≡◌, Bool, true, false, List, [], ◌∷◌, ◌++◌, refl, ap, subst, sym, ◌∙◌, append_assoc}
use Rattle.std.specs.Prelude.{Result, Ok, Err, ◌&&◌}
use Rattle.std.specs.Result.{IsErr, IsErrAnd}
use Rattle.ps_shapes.specs.declared.polygon.Point.{Point}
use Rattle.stroke_build.specs.declared.corner.Corner.{Corner}
use Rattle.path_flat.specs.declared.refusal.FlatRefusal.{FlatRefusal}
use Rattle.path_flat.specs.declared.refusal.FlatRefusal.TheVariants as refusal
use Rattle.stroke_build.specs.Corners.{is_near_polygon, are_near, places}
use Rattle.stroke_build.specs.Drawing.{Draws, Refuses}
use Rattle.std.proofs.lemmas.List.{append-nil}

far_left : (a b : Bool) → a ≡ false → (a && b) ≡ false
far_left true b e = absurd (cc)
far_left false b e = refl

far_right : (a b : Bool) → b ≡ false → (a && b) ≡ false
far_right true b e = e
far_right false b e = refl

pub far_front : (xs ys : List (List Corner)) → are_near xs ≡ false → are_near (xs ++ ys) ≡ false
far_front [] ys e = absurd (cc)
far_front (x ∷ xs) ys e = by (far_front xs ys) (is_near_polygon x) e
  where
    by : (are_near xs ≡ false → are_near (xs ++ ys) ≡ false) → (b : Bool) → (b && are_near xs) ≡ false → (b && are_near (xs ++ ys)) ≡ false
    by rest true f = rest f
    by rest false f = refl

pub far_back : (xs ys : List (List Corner)) → are_near ys ≡ false → are_near (xs ++ ys) ≡ false
far_back [] ys e = e
far_back (x ∷ xs) ys e = far_right (is_near_polygon x) (are_near (xs ++ ys)) (far_back xs ys e)

pub refused_front : (ps qs : List (List Corner)) (e : FlatRefusal) → Refuses ps e → Refuses (ps ++ qs) e
refused_front ps qs refusal.Limit f = far_front ps qs f
refused_front ps qs refusal.NoMemory f = f

pub refused_back : (ps qs : List (List Corner)) (e : FlatRefusal) → Refuses qs e → Refuses (ps ++ qs) e
refused_back ps qs refusal.Limit f = far_back ps qs f
refused_back ps qs refusal.NoMemory f = f

-- some polygons are drawn, and then others
pub drawn_both : {A : Type 0} (ps qs : List (List Corner)) (old mid new : List (List Point)) (result : Result A FlatRefusal) → places mid ≡ places old ++ ps → Draws qs mid new result → Draws (ps ++ qs) old new result
drawn_both ps qs old mid new (Ok done) e f = f ∙ ap (λ (l : List (List Corner)). l ++ qs) e ∙ append_assoc (places old) ps qs
drawn_both ps qs old mid new (Err e) was f = refused_back ps qs e f

-- what a ? passes on is the error that it met
pub passed_on : {A : Type 0} (result : Result A FlatRefusal) (e : FlatRefusal) → IsErr result × IsErrAnd result (λ r. r ≡ e) → result ≡ Err e
passed_on (Ok a) e f = absurd (cc (f.0))
passed_on (Err r) e f = ap Err f.1

-- what stops the first stops both
pub drawn_first : {A : Type 0} (ps qs : List (List Corner)) (old new : List (List Point)) (result : Result A FlatRefusal) (e : FlatRefusal) → result ≡ Err e → Refuses ps e → Draws (ps ++ qs) old new result
drawn_first {A} ps qs old new result e is f = subst (λ (r : Result A FlatRefusal). Draws (ps ++ qs) old new r) (sym is) (refused_front ps qs e f)

pub drawn_as : {A : Type 0} (ps qs : List (List Corner)) (old new : List (List Point)) (result : Result A FlatRefusal) → ps ≡ qs → Draws ps old new result → Draws qs old new result
drawn_as {A} ps qs old new result e f = subst (λ (l : List (List Corner)). Draws l old new result) e f

pub nothing_drawn : (ps : List (List Corner)) (old : List (List Point)) → ps ≡ [] → places old ≡ places old ++ ps
nothing_drawn ps old e = sym (ap (λ (l : List (List Corner)). places old ++ l) e ∙ append-nil (places old))
