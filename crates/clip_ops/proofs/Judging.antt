-- What flattening answers, as operators read it.
use Rattle.std.proofs.Common.{◌≡◌, ℕ, ◌<◌, ◌≤◌, Bool, true, false, cond, nat_le, List, Result, Ok, Err, refl, ap, sym, ◌∙◌, subst}
use Rattle.std.proofs.lemmas.Bool.{le-leb, lt-leb}
use Rattle.ps_names.specs.declared.error_name.ErrorName.{ErrorName}
use Rattle.ps_names.specs.declared.error_name.ErrorName.TheVariants.{LimitCheck}
use Rattle.ps_objects.specs.Operands.{Reads}
use Rattle.ps_objects.specs.declared.refusal.Refusal.{Refusal}
use Rattle.ps_shapes.specs.declared.path.Segment.{Segment}
use Rattle.ps_shapes.specs.declared.polygon.Point.{Point}
use Rattle.path_flat.specs.Answers.{Answers}
use Rattle.path_flat.specs.Limits.{flat_points}
use Rattle.path_flat.specs.Flattening.{flattened}
use Rattle.path_flat.specs.Subpaths.{flat}
use Rattle.path_flat.specs.declared.refusal.FlatRefusal.{FlatRefusal}
use Rattle.path_flat.specs.declared.refusal.FlatRefusal.TheVariants as why
use Rattle.clip_ops.specs.Flats.{told_flat, judged, lines_of, polygons_of}

reads_judged : {A : Type 0} (points : ℕ) (value : A) (answer : Result A FlatRefusal) → Answers points value answer → Reads (judged points value) (told_flat answer)
reads_judged points value (Ok x) h = ap (λ (b : Bool). cond b (Ok value) (Err LimitCheck)) (le-leb points 100000 h.0) ∙ ap Ok (sym h.1)
reads_judged points value (Err why.Limit) h = ap (λ (b : Bool). cond b (Ok value) (Err LimitCheck)) (lt-leb points 100000 h)
reads_judged points value (Err why.NoMemory) h = tt

pub lines_read : (path : List Segment) (answer : Result (List Segment) FlatRefusal) (told : Result (List Segment) Refusal)
    → Answers (flat_points path) (flattened path) answer → told ≡ told_flat answer → Reads (lines_of path) told
unfolding lines_of
lines_read path answer told h e = subst (λ (r : Result (List Segment) Refusal). Reads (judged (flat_points path) (flattened path)) r) (sym e) (reads_judged (flat_points path) (flattened path) answer h)

pub polygons_read : (path : List Segment) (answer : Result (List (List Point)) FlatRefusal) (told : Result (List (List Point)) Refusal)
    → Answers (flat_points path) (flat path) answer → told ≡ told_flat answer → Reads (polygons_of path) told
unfolding polygons_of
polygons_read path answer told h e = subst (λ (r : Result (List (List Point)) Refusal). Reads (judged (flat_points path) (flat path)) r) (sym e) (reads_judged (flat_points path) (flat path) answer h)
