-- Units within a section's budget.
use Rattle.std.proofs.Common.{◌≡◌, ℕ, ◌+◌, ◌^◌, ◌<◌, Bool, true, false, cond, nat_lt, nat_le, Result, Ok, Err, refl, sym, ap, ◌∙◌, arith}
use Rattle.std.specs.Prelude.{is_ok, is_err}
use Rattle.ps_names.specs.declared.error_name.ErrorName.{ErrorName}
use Rattle.ps_names.specs.declared.error_name.ErrorName.TheVariants.{VmError}
use Rattle.ps_objects.specs.declared.section.SectionKind.{SectionKind}
use Rattle.ps_objects.specs.declared.section.SectionKind.TheVariants as section
use Rattle.ps_meaning.specs.Budgets.{unit_budget}
use Rattle.ps_operator.specs.Budgets.{unit_room}

pub budget_small : (k : SectionKind) → unit_budget k < 4294967296
budget_small section.Prolog = omega arith
budget_small section.Setup = omega arith
budget_small section.Page = omega arith
budget_small section.Trailer = omega arith

room_in : (b m : ℕ) (t : Bool) → nat_lt b m ≡ t → is_err (cond {A = Result (Unit {0}) ErrorName} t (Err VmError) (Ok tt)) ≡ t
room_in b m true e = refl
room_in b m false e = refl

-- whether there is room is a comparison
exceeds : (k : SectionKind) (u n : ℕ) → is_err (unit_room k u n) ≡ nat_lt (unit_budget k) (u + n)
exceeds k u n = room_in (unit_budget k) (u + n) (nat_lt (unit_budget k) (u + n)) refl

fits_in : (b m : ℕ) (t : Bool) → nat_lt b m ≡ t → is_ok (cond {A = Result (Unit {0}) ErrorName} t (Err VmError) (Ok tt)) ≡ nat_le m b
fits_in b m true e = grind (arith, e)
fits_in b m false e = grind (arith, e)

fits : (k : SectionKind) (u n : ℕ) → is_ok (unit_room k u n) ≡ nat_le (u + n) (unit_budget k)
fits k u n = fits_in (unit_budget k) (u + n) (nat_lt (unit_budget k) (u + n)) refl

small : (b m : ℕ) → nat_lt b m ≡ false → b < 4294967296 → m < 2 ^ 64
small b m e h = grind (arith, e, h)

pub small_sum : (k : SectionKind) (u n : ℕ) → is_err (unit_room k u n) ≡ false → u + n < 2 ^ 64
small_sum k u n e = small (unit_budget k) (u + n) (sym (exceeds k u n) ∙ e) (budget_small k)

exceeded : (b u m n : ℕ) → nat_lt b (u + m) ≡ true → false ≡ nat_le (u + (m + n)) b
exceeded b u m n e = grind (arith, e)

pub first_exceeds : (k : SectionKind) (u m n : ℕ) → is_err (unit_room k u m) ≡ true → false ≡ nat_le (u + (m + n)) (unit_budget k)
first_exceeds k u m n e = exceeded (unit_budget k) u m n (sym (exceeds k u m) ∙ e)

again : (u m n : ℕ) → u + m + n ≡ u + (m + n)
again u m n = omega arith

pub both_fit : (k : SectionKind) (u m n : ℕ) → is_ok (unit_room k (u + m) n) ≡ nat_le (u + (m + n)) (unit_budget k)
both_fit k u m n = fits k (u + m) n ∙ ap (λ j. nat_le j (unit_budget k)) (again u m n)

below : (b u m n : ℕ) → nat_le (u + (m + n)) b ≡ true → b < 4294967296 → m + n < 2 ^ 32
below b u m n e h = grind (arith, e, h)

pub operands_fit : (k : SectionKind) (u m n : ℕ) → nat_le (u + (m + n)) (unit_budget k) ≡ true → m < 2 ^ 32
operands_fit k u m n e = let l : m + n < 2 ^ 32 = below (unit_budget k) u m n e (budget_small k) in omega (arith, l)

pub dicts_fit : (k : SectionKind) (u m n : ℕ) → nat_le (u + (m + n)) (unit_budget k) ≡ true → n < 2 ^ 32
dicts_fit k u m n e = let l : m + n < 2 ^ 32 = below (unit_budget k) u m n e (budget_small k) in omega (arith, l)
