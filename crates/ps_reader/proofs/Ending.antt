-- The end of a reading: its cells are made.
use Rattle.std.proofs.Common.{◌≡◌, ℕ, ◌+◌, ◌*◌, ◌≤◌, List, [], ◌∷◌, length, Ok, Err, refl, sym, ap, ◌∙◌, subst, arith}
use Rattle.ps_objects.specs.declared.section.SectionKind.{SectionKind}
use Rattle.ps_objects.specs.declared.section.SectionKind.TheVariants.{Prolog, Setup, Page, Trailer}
use Rattle.ps_kinds.specs.declared.state.State.{State}
use Rattle.ps_memory.specs.Memory.{Memory, Output, value_at, shape_of}
use Rattle.ps_memory.specs.Tree.{Change, puts, makes, opens, Application, done, restores, fail, look, ask, Tree, changes, action_of}
use Rattle.ps_meaning.specs.Answer.{Log, looked_in, acted_in, changed_in, names_taken}
use Rattle.ps_meaning.specs.Budgets.{turn_budget, unit_budget}
use Rattle.ps_meaning.specs.Ready.{Ready}
use Rattle.ps_execution.specs.Execution.{Read, reads, ends_scan}
use Rattle.ps_execution.specs.Gather.{bad, Scanned, gather}
use Rattle.ps_execution.specs.Reached.{Reached, reached, came}
use Rattle.ps_gather.specs.Cells.{changes_of}
use Rattle.ps_gather.specs.Ended.{Ended, ended, spelt_of, scanned_of, Scans}
use Rattle.ps_gather.specs.declared.gathering.Scanned as code
use Rattle.ps_gather.proofs.CellLemmas.{cells_named}
use Rattle.ps_reader.specs.Reading.{IsReady, Reads}

small : (k : SectionKind) (turns units count : ℕ) → turns ≤ turn_budget k → units ≤ unit_budget k → count ≤ 5 * turns + units + 0 → count ≤ 2147483648
small Prolog turns units count a b c = omega (arith, a, b, c)
small Setup turns units count a b c = omega (arith, a, b, c)
small Page turns units count a b c = omega (arith, a, b, c)
small Trailer turns units count a b c = omega (arith, a, b, c)

pub ready_here : (text : List ℕ) (s : State) (M : Memory) → IsReady 0 text s M → Ready s M
ready_here text s M r = record { state = r.fits.state; memory = r.memory; count = small s.kind s.turns s.units s.count r.fits.state.budget.turns r.fits.state.budget.units r.paid }

pub ready_there : (text : List ℕ) (s : State) (M N : Memory) → N ≡ M → IsReady 0 text s M → Ready s N
ready_there text s M N e r = subst (Ready s) (sym e) (ready_here text s M r)

-- changes are done before what comes after them
changes_reached : {A : Type 0} (ws : List Change) (t : Tree A) (log : Log) (out : List Output) → reached (changes ws t) log out ≡ reached t (changed_in log ws) out
changes_reached [] t log out = refl
changes_reached (puts l v ∷ ws) t log out = changes_reached ws t (acted_in log (action_of (puts l v))) out
changes_reached (makes c sh ∷ ws) t log out = changes_reached ws t (acted_in log (action_of (makes c sh))) out
changes_reached (opens s ∷ ws) t log out = changes_reached ws t (acted_in log (action_of (opens s))) out

-- where a reading comes from the end of its tree
abbrev from_end : State → Ended Scanned → List Output → Reached Read
from_end s r out = elim r.outcome [
  | Ok x ↦ reached (changes r.changes (ends_scan (names_taken r.changes) s x)) r.log out
  | Err e ↦ came (record { spelt = bad e; place = s.place; state = s }) r.log out
]

reads_end : (s : State) (t : Application Scanned) (log : Log) (out : List Output) → reached (reads t s) log out ≡ from_end s (ended t log) out
reads_end s (done ws x) log out = refl
reads_end s (restores r ws x) log out = refl
reads_end s (fail e) log out = refl
reads_end s (look l f) log out = reads_end s (f (value_at log.view l)) (looked_in log l) out
reads_end s (ask c f) log out = reads_end s (f (shape_of log.view c)) log out

module _ (s : State) (d : code.Scanned) where
  abbrev came_to : ℕ → Log → List Output → Reached Read
  came_to n log out = came (record { spelt = spelt_of d.spelt; place = d.place; state = record s { count = s.count + n; units = d.units } }) log out

  -- the reading that led to what was scanned
  pub read_ends : (bytes : List ℕ) (place : ℕ) (old log there : Log) → Scans bytes place s old d log → there ≡ changed_in log (changes_of s 0 d.cells)
      → Reads bytes place s old (record { spelt = spelt_of d.spelt; place = d.place; state = record s { count = s.count + length d.cells; units = d.units } }) there
  read_ends bytes place old log there l e out =
      reads_end s (gather bytes place s) old out
      ∙ ap (λ r. from_end s r out) l
      ∙ changes_reached (changes_of s 0 d.cells) (ends_scan (names_taken (changes_of s 0 d.cells)) s (scanned_of d)) log out
      ∙ ap (λ n. came_to n (changed_in log (changes_of s 0 d.cells)) out) (cells_named s 0 d.cells)
      ∙ ap (λ m. came_to (length d.cells) m out) (sym e)
