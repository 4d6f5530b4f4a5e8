-- Steps of a scan.
use Rattle.std.proofs.Common.{◌≡◌, ◌≢◌, ℕ, suc, ◌+◌, ◌-◌, ◌<◌, ◌≤◌, List, [], ◌∷◌, length, map, reverse, Some, None, refl, sym, ap, ◌∙◌, subst, arith}
use Rattle.ps_names.specs.declared.error_name.ErrorName.TheVariants.{SyntaxError}
use Rattle.ps_objects.specs.declared.object.Object.{Object}
use Rattle.ps_kinds.specs.declared.state.State.{State}
use Rattle.ps_memory.specs.Tree.{Application}
use Rattle.ps_meaning.specs.Answer.{Log}
use Rattle.ps_meaning.specs.Budgets.{unit_budget}
use Rattle.ps_execution.specs.Gather as meaning
use Rattle.ps_execution.specs.Gather.{Onward, Scanned, scanned, gather, gather_from, gather_scan}
use Rattle.ps_scan.specs.Token.{token_at}
use Rattle.ps_gather.specs.Ended.{ended, Leads, spelt_of}
use Rattle.ps_gather.specs.Gathered.{told, IsGathered, Steps, ends_with}
use Rattle.ps_gather.specs.declared.gathering.Gathering.{Gathering}
use Rattle.ps_gather.specs.declared.spelt.Spelt.{Spelt}
use Rattle.ps_gather.specs.declared.spelt.Spelt.TheVariants as spelt

-- ---- the text's end

module _ (s : State) (place size : ℕ) (g : Gathering) where
  pub end_is : g.braces ≡ [] → meaning.at_end size place (told s g) ≡ scanned (spelt_of spelt.Nothing) place (told s g)
  end_is e = ap (λ (xs : List (List Object)). meaning.end_in size place (told s g) (map reverse xs)) e

  cut_by : (ones : List (List Object)) → ones ≢ [] → meaning.end_in size place (told s g) (map reverse ones) ≡ scanned (spelt_of (spelt.Bad SyntaxError)) size (told s g)
  cut_by [] n = absurd (n refl)
  cut_by (x ∷ xs) n = refl

  pub cut_is : g.braces ≢ [] → meaning.at_end size place (told s g) ≡ scanned (spelt_of (spelt.Bad SyntaxError)) size (told s g)
  cut_is n = cut_by g.braces n

-- ---- the loop

pub leads_same : (t u : Application Scanned) (log : Log) → t ≡ u → Leads t log u log
leads_same t u log e = ap (λ v. ended v log) e

pub leads_on : (t u v : Application Scanned) (old between there : Log) → Leads t old u between → Leads u between v there → Leads t old v there
leads_on t u v old between there a b = a ∙ b

pub begun_gathered : (s : State) (g : Gathering) → g ≡ record { cells = []; units = s.units; braces = [] } → s.units ≤ unit_budget s.kind → IsGathered s.kind 0 g
begun_gathered s g e h = subst (IsGathered s.kind 0) (sym e) (record { cells = tt; braces = tt; paid = omega arith; units = h })

module _ (bytes : List ℕ) (s : State) where
  abbrev pub left : ℕ → ℕ → Gathering → Application Scanned
  left i place g = gather_from (length bytes + 1 - i) bytes s place (told s g)

  pub left_first : (place : ℕ) (log : Log) (g : Gathering) → g ≡ record { cells = []; units = s.units; braces = [] } → Leads (gather bytes place s) log (left 0 place g) log
  left_first place log g e = leads_same (gather bytes place s) (left 0 place g) log
      (ap (λ n. gather_from n bytes s place (told s (record { cells = []; units = s.units; braces = [] }))) (whole (length bytes)) ∙ ap (left 0 place) (sym e))
    where
      whole : (n : ℕ) → suc n ≡ n + 1 - 0
      whole n = omega arith

  opened : (i place : ℕ) (g : Gathering) → i < length bytes + 1 → left i place g ≡ gather_scan (gather_from (length bytes + 1 - (i + 1)) bytes s) s (length bytes) place (token_at bytes place) (told s g)
  opened i place g h = ap (λ n. gather_from n bytes s place (told s g)) (fewer i (length bytes) h)
    where
      fewer : (i n : ℕ) → i < n + 1 → n + 1 - i ≡ suc (n + 1 - (i + 1))
      fewer i n h = omega (arith, h)

  -- a token on which the scan goes on
  pub left_on : (i place next : ℕ) (g new : Gathering) (start log there : Log) (whole : Application Scanned) → i < length bytes + 1 → Leads whole start (left i place g) log
      → Steps bytes place s g log None next new there → Leads whole start (left (i + 1) next new) there
  left_on i place next g new start log there whole h a b =
      leads_on whole (left i place g) (left (i + 1) next new) start log there a
      (leads_same (left i place g) (gather_scan (gather_from (length bytes + 1 - (i + 1)) bytes s) s (length bytes) place (token_at bytes place) (told s g)) log (opened i place g h)
      ∙ b (gather_from (length bytes + 1 - (i + 1)) bytes s))

  -- a token with which it ends
  pub left_ends : (i place next : ℕ) (g new : Gathering) (x : Spelt) (start log there : Log) (whole : Application Scanned) → i < length bytes + 1 → Leads whole start (left i place g) log
      → Steps bytes place s g log (Some x) next new there → Leads whole start (ends_with s (record { spelt = x; place = next; cells = new.cells; units = new.units })) there
  left_ends i place next g new x start log there whole h a b =
      leads_on whole (left i place g) (scanned (spelt_of x) next (told s new)) start log there a
      (leads_same (left i place g) (gather_scan (gather_from (length bytes + 1 - (i + 1)) bytes s) s (length bytes) place (token_at bytes place) (told s g)) log (opened i place g h)
      ∙ b (gather_from (length bytes + 1 - (i + 1)) bytes s))

  -- no step is left
  pub left_none : (i place : ℕ) (g : Gathering) (start log : Log) (whole : Application Scanned) → i ≡ length bytes + 1 → Leads whole start (left i place g) log
      → Leads whole start (ends_with s (record { spelt = spelt.Bad SyntaxError; place = place; cells = g.cells; units = g.units })) log
  left_none i place g start log whole e a =
      leads_on whole (left i place g) (scanned (spelt_of (spelt.Bad SyntaxError)) place (told s g)) start log log a
      (leads_same (left i place g) (scanned (spelt_of (spelt.Bad SyntaxError)) place (told s g)) log (ap (λ n. gather_from n bytes s place (told s g)) (none i (length bytes) e)))
    where
      none : (i n : ℕ) → i ≡ n + 1 → n + 1 - i ≡ 0
      none i n e = omega (arith, e)
