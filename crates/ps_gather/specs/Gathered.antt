-- What was gathered so far, and what functions owe that gather.
use Rattle.std.specs.Prelude.{◌≡◌, ℕ, ◌+◌, ◌≤◌, List, ◌∷◌, length, map, reverse, Option, Some, None}
use Rattle.std.specs.List.{AllByRecursion}
use Rattle.ps_objects.specs.declared.object.Object.{Object}
use Rattle.ps_objects.specs.declared.section.SectionKind.{SectionKind}
use Rattle.ps_kinds.specs.declared.state.State.{State}
use Rattle.ps_memory.specs.Tree.{Application, done}
use Rattle.ps_meaning.specs.Answer.{Log}
use Rattle.ps_meaning.specs.Budgets.{unit_budget}
use Rattle.ps_execution.specs.Gather as meaning
use Rattle.ps_execution.specs.Gather.{Scanned, scanned, Onward, gather_scan}
use Rattle.ps_scan.specs.Token.{token_at}
use Rattle.ps_gather.specs.declared.gathering.Gathering.{Gathering}
use Rattle.ps_gather.specs.declared.gathering.Scanned as code
use Rattle.ps_gather.specs.declared.spelt.Spelt.{Spelt}
use Rattle.ps_gather.specs.Cells.{AreSmall, changes_of}
use Rattle.ps_gather.specs.Ended.{Leads, spelt_of, scanned_of}

-- what was gathered, in the words of the meaning: there the newest item of a brace comes first
abbrev pub told : State → Gathering → meaning.Gathering
told s g = record {
  changes = changes_of s 0 g.cells;
  made = length g.cells;
  units = g.units;
  open_braces = map reverse g.braces;
}

-- one more open brace, with these items
abbrev pub with_brace : List Object → Gathering → Gathering
with_brace items g = record g { braces = items ∷ g.braces }

-- What is known of what was gathered in a section of a kind, of which n cells have no unit of their own. Braces and cells are
-- small, and the units are within the budget.
pub record IsGathered (kind : SectionKind) (n : ℕ) (g : Gathering) : Type 0 where
  pub cells : AreSmall g.cells
  pub braces : AllByRecursion (λ xs. length xs ≤ 65535) g.braces
  pub paid : length g.cells ≤ g.units + n
  pub units : g.units ≤ unit_budget kind

-- one cell at most, the last, has no unit of its own
abbrev pub unpaid : Option Spelt → ℕ
unpaid None = 0
unpaid (Some x) = 1

-- goes on at a place with what was gathered, or ends with what is spelt
abbrev pub after : Onward → ℕ → Option Spelt → meaning.Gathering → Application Scanned
after k place None g = k place g
after k place (Some x) g = scanned (spelt_of x) place g

-- however it goes on, a tree is what a function's result says, with what it gathered
abbrev pub Is : (Onward → ℕ → Application Scanned) → State → Option Spelt → Gathering → Type 0
Is t s x new = (k : Onward) (place : ℕ) → t k place ≡ after k place x (told s new)

-- however it goes on, a tree leads to what a function's result says
abbrev pub Goes : (Onward → ℕ → Application Scanned) → State → Log → Option Spelt → Gathering → Log → Type 0
Goes t s old x new there = (k : Onward) (place : ℕ) → Leads (t k place) old (after k place x (told s new)) there

-- however it goes on, the token that stands at a place of these bytes leads to what a function's result says, at the place after it
abbrev pub Steps : List ℕ → ℕ → State → Gathering → Log → Option Spelt → ℕ → Gathering → Log → Type 0
Steps bytes place s g old x next new there = (k : Onward)
    → Leads (gather_scan k s (length bytes) place (token_at bytes place) (told s g)) old (after k next x (told s new)) there

-- what was scanned, in the words of the meaning
abbrev pub ends_with : State → code.Scanned → Application Scanned
ends_with s d = done (changes_of s 0 d.cells) (scanned_of d)
