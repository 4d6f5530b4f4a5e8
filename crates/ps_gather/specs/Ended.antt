-- What a tree comes to from a log on, before its changes are done.
use Rattle.std.specs.Prelude.{◌≡◌, ℕ, List, [], Result, Ok, Err}
use Rattle.ps_names.specs.declared.error_name.ErrorName.{ErrorName}
use Rattle.ps_kinds.specs.declared.state.State.{State}
use Rattle.ps_memory.specs.Memory.{value_at, shape_of}
use Rattle.ps_memory.specs.Tree.{Change, Application, done, restores, fail, look, ask}
use Rattle.ps_meaning.specs.Answer.{Log, looked_in}
use Rattle.ps_execution.specs.Gather as meaning
use Rattle.ps_execution.specs.Gather.{gather}
use Rattle.ps_gather.specs.declared.gathering.Scanned.{Scanned}
use Rattle.ps_gather.specs.declared.spelt.Spelt.{Spelt}
use Rattle.ps_gather.specs.declared.spelt.Spelt.TheVariants as spelt
use Rattle.ps_gather.specs.Cells.{changes_of}

-- what a tree ends with: its changes, and what was found or an error; and the log after its looks
pub record Ended (A : Type 0) : Type 0 where
  pub changes : List Change
  pub outcome : Result A ErrorName
  pub log : Log

-- the end of a tree from a log on
abbrev pub ended : {A : Type 0} → Application A → Log → Ended A
ended (done ws x) log = record { changes = ws; outcome = Ok x; log = log }
ended (restores r ws x) log = record { changes = ws; outcome = Ok x; log = log }
ended (fail e) log = record { changes = []; outcome = Err e; log = log }
ended (look l f) log = ended (f (value_at log.view l)) (looked_in log l)
ended (ask c f) log = ended (f (shape_of log.view c)) log

-- from a log on, a tree ends as another does from another log on
abbrev pub Leads : {A : Type 0} → Application A → Log → Application A → Log → Type 0
Leads t old u there = ended t old ≡ ended u there

-- ---- what a text spells

-- what a text spells, in the words of the meaning
abbrev pub spelt_of : Spelt → meaning.Spelt
spelt_of (spelt.Object x) = meaning.object x
spelt_of (spelt.Bad e) = meaning.bad e
spelt_of spelt.Nothing = meaning.nothing

-- what was scanned, in the words of the meaning
abbrev pub scanned_of : Scanned → meaning.Scanned
scanned_of d = record { spelt = spelt_of d.spelt; place = d.place; units = d.units }

-- From a state and a log, the object that these bytes spell at a place is what was scanned, the changes at its end make its cells, and the
-- log is this one after the looks.
abbrev pub Scans : List ℕ → ℕ → State → Log → Scanned → Log → Type 0
Scans bytes place s log d there = ended (gather bytes place s) log
    ≡ record { changes = changes_of s 0 d.cells; outcome = Ok (scanned_of d); log = there }
