-- What stays within its budget has 31 bits.
use Rattle.std.proofs.Common.{ℕ, ◌<◌, ◌≤◌, arith}
use Rattle.ps_objects.specs.declared.section.SectionKind.{SectionKind}
use Rattle.ps_objects.specs.declared.section.SectionKind.TheVariants.{Prolog, Setup, Page, Trailer}
use Rattle.ps_kinds.specs.declared.state.State.{State}
use Rattle.ps_meaning.specs.Budgets.{turn_budget, unit_budget, IsInBudget}

below_turns : (k : SectionKind) (n : ℕ) → n ≤ turn_budget k → n < 2147483648
below_turns Prolog n h = omega (arith, h)
below_turns Setup n h = omega (arith, h)
below_turns Page n h = omega (arith, h)
below_turns Trailer n h = omega (arith, h)

below_units : (k : SectionKind) (n : ℕ) → n ≤ unit_budget k → n < 2147483648
below_units Prolog n h = omega (arith, h)
below_units Setup n h = omega (arith, h)
below_units Page n h = omega (arith, h)
below_units Trailer n h = omega (arith, h)

pub turns_small : (s : State) → IsInBudget s → s.turns < 2147483648
turns_small s h = below_turns s.kind s.turns h.turns

pub units_small : (s : State) → IsInBudget s → s.units < 2147483648
units_small s h = below_units s.kind s.units h.units
