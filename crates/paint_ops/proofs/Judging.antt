-- What flattening answers, as operators read it, and how many pages were given out where there is room for one more.
use Rattle.std.proofs.Common.{◌≡◌, ℕ, ◌<◌, ◌≤◌, Bool, true, false, cond, nat_le, nat_lt, List, Result, Ok, Err, refl, ap, sym, ◌∙◌, subst, arith}
use Rattle.std.proofs.lemmas.Bool.{le-leb, lt-leb}
use Rattle.ps_names.specs.declared.error_name.ErrorName.{ErrorName}
use Rattle.ps_names.specs.declared.error_name.ErrorName.TheVariants.{LimitCheck}
use Rattle.ps_objects.specs.Operands.{Reads}
use Rattle.ps_objects.specs.declared.refusal.Refusal.{Refusal}
use Rattle.ps_objects.specs.declared.section.SectionKind.{SectionKind}
use Rattle.ps_objects.specs.declared.section.SectionKind.TheVariants.{Prolog, Setup, Page, Trailer}
use Rattle.ps_shapes.specs.declared.path.Segment.{Segment}
use Rattle.ps_shapes.specs.declared.polygon.Point.{Point}
use Rattle.path_flat.specs.Answers.{Answers}
use Rattle.path_flat.specs.Limits.{flat_points}
use Rattle.path_flat.specs.Subpaths.{flat}
use Rattle.path_flat.specs.declared.refusal.FlatRefusal.{FlatRefusal}
use Rattle.path_flat.specs.declared.refusal.FlatRefusal.TheVariants as why
use Rattle.ps_meaning.specs.Budgets.{show_budget}
use Rattle.ps_operator.specs.Budgets.{show_room}
use Rattle.paint_ops.specs.Outlines.{told_flat, polygons_of}

reads_judged : {A : Type 0} (points : ℕ) (value : A) (answer : Result A FlatRefusal) → Answers points value answer → Reads (cond (nat_le points 100000) (Ok value) (Err LimitCheck)) (told_flat answer)
reads_judged points value (Ok x) h = ap (λ (b : Bool). cond b (Ok value) (Err LimitCheck)) (le-leb points 100000 h.0) ∙ ap Ok (sym h.1)
reads_judged points value (Err why.Limit) h = ap (λ (b : Bool). cond b (Ok value) (Err LimitCheck)) (lt-leb points 100000 h)
reads_judged points value (Err why.NoMemory) h = tt

pub polygons_read : (path : List Segment) (answer : Result (List (List Point)) FlatRefusal) (told : Result (List (List Point)) Refusal)
    → Answers (flat_points path) (flat path) answer → told ≡ told_flat answer → Reads (polygons_of path) told
unfolding polygons_of
polygons_read path answer told h e = subst (λ (r : Result (List (List Point)) Refusal). Reads (cond (nat_le (flat_points path) 100000) (Ok (flat path)) (Err LimitCheck)) r) (sym e) (reads_judged (flat_points path) (flat path) answer h)

-- ---- pages

within : (shows most : ℕ) → most ≤ 4096 → cond {A = Result (Unit {0}) ErrorName} (nat_lt shows most) (Ok tt) (Err LimitCheck) ≡ Ok tt → shows < most
within shows most h e = go (nat_lt shows most) refl e
  where
    go : (b : Bool) → nat_lt shows most ≡ b → cond {A = Result (Unit {0}) ErrorName} b (Ok tt) (Err LimitCheck) ≡ Ok tt → shows < most
    go true p q = grind (arith, p)
    go false p q = cc

-- where there is room for one more page, the budget isn't reached
pub room_left : (kind : SectionKind) (shows : ℕ) → show_room kind shows ≡ Ok tt → shows < show_budget kind
room_left Prolog shows e = within shows 4096 (omega arith) e
room_left Setup shows e = within shows 4096 (omega arith) e
room_left Page shows e = within shows 8 (omega arith) e
room_left Trailer shows e = within shows 4096 (omega arith) e

pub few_shown : (kind : SectionKind) (shows : ℕ) → show_room kind shows ≡ Ok tt → shows < 4096
few_shown Prolog shows e = within shows 4096 (omega arith) e
few_shown Setup shows e = within shows 4096 (omega arith) e
few_shown Page shows e = let h = within shows 8 (omega arith) e in omega (arith, h)
few_shown Trailer shows e = within shows 4096 (omega arith) e
