-- What may be said has few bytes.
use Rattle.std.proofs.Common.{◌≡◌, ℕ, ◌+◌, ◌≤◌, Bool, true, false, cond, nat_lt, Result, Ok, Err, refl, arith}
use Rattle.ps_names.specs.declared.error_name.ErrorName.{ErrorName}
use Rattle.ps_names.specs.declared.error_name.ErrorName.TheVariants.{LimitCheck}
use Rattle.ps_objects.specs.declared.section.SectionKind.{SectionKind}
use Rattle.ps_objects.specs.declared.section.SectionKind.TheVariants as section
use Rattle.ps_meaning.specs.Budgets.{message_budget}
use Rattle.ps_operator.specs.Budgets.{message_room}

budget_small : (k : SectionKind) → message_budget k ≤ 16777216
budget_small section.Page = omega arith
budget_small section.Prolog = omega arith
budget_small section.Setup = omega arith
budget_small section.Trailer = omega arith

room_by : (b m : ℕ) (t : Bool) → nat_lt b m ≡ t → cond {A = Result (Unit {0}) ErrorName} t (Err LimitCheck) (Ok tt) ≡ Ok tt → m ≤ b
room_by b m true p q = cc
room_by b m false p q = grind arith

pub room_kept : (k : SectionKind) (said n : ℕ) → message_room k said n ≡ Ok tt → said + n ≤ message_budget k
room_kept k said n e = room_by (message_budget k) (said + n) (nat_lt (message_budget k) (said + n)) refl e

-- at most 2^24
pub room_small : (k : SectionKind) (said n : ℕ) → message_room k said n ≡ Ok tt → said + n ≤ 16777216
room_small k said n e =
    let a : said + n ≤ message_budget k = room_kept k said n e in
    let b : message_budget k ≤ 16777216 = budget_small k in
    omega (arith, a, b)
