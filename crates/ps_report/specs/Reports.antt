-- The report that a function takes, and what it owes.
use Rattle.std.specs.Prelude.{◌≡◌, ℕ, Bool, true, false, List, Option, Some, None, option_map, Result, Ok, codes}
use Rattle.ps_objects.specs.declared.object.Object.{Object}
use Rattle.ps_objects.specs.declared.object.Kind.{Kind}
use Rattle.ps_objects.specs.declared.object.Kind.TheVariants as kind
use Rattle.ps_objects.specs.declared.objects.Interval.{Interval}
use Rattle.ps_objects.specs.declared.place.Value.TheVariants as value
use Rattle.ps_memory.specs.Memory.{Memory, Output, store}
use Rattle.ps_memory.specs.Tree.{Application, applied}
use Rattle.ps_meaning.specs.Answer.{Log, acted_in}
use Rattle.ps_meaning.specs.Start.{literal}
use Rattle.ps_meaning.specs.Sound.{World, StartStands, SoundMemory, Lawful}
use Rattle.ps_operator.specs.Standing.{is_string}
use Rattle.ps_execution.specs.Reached.{reached, came}
use Rattle.ps_execution.specs.Section as meaning
use Rattle.ps_execution.specs.Section.{reports, in_error_record}
use Rattle.ps_report.specs.declared.report.Report.{Report}
use Rattle.ps_report.specs.declared.report.Told.{Told}

-- what is told of an object, in the words of the meaning
abbrev pub told_in : Told → meaning.Told
told_in t = record { object = t.object; bytes = t.bytes }

-- a report in the words of the meaning
abbrev pub report_in : Report → meaning.Report
report_in r = record { name = option_map told_in r.name; command = option_map told_in r.command }

-- from a log on, the run that takes the report comes to this report and to this log
abbrev pub Reports : Log → Option Report → Log → Type 0
Reports old r new =
    (out : List Output) → reached (applied reports) old out ≡ came (Ok (option_map report_in r)) new out

-- a memory that was sound is sound, in the same world
abbrev pub StaysSound : Memory → Memory → Type 0
StaysSound M N = (W : World) → SoundMemory W M → SoundMemory W N

-- to take the report is lawful where the start cells stand, and the world is the same afterwards
abbrev pub ReportsLaw : Type 0
ReportsLaw = (W : World) → StartStands W.shapes → Lawful (applied reports) W (λ V r. V ≡ W)

-- ---- parts of the report

-- the interval of a string
abbrev pub string_in : Kind → Option Interval
string_in (kind.Str part) = Some part
string_in _ = None

-- the string of an object stands
abbrev pub string_stands : Memory → Kind → Bool
string_stands M (kind.Str part) = is_string M part
string_stands M _ = true

-- the string of an object stands, if there is an object
abbrev pub is_told : Memory → Option Object → Bool
is_told M None = true
is_told M (Some x) = string_stands M x.kind

-- the error is told
abbrev pub forgotten_in : Log → Log
forgotten_in log = acted_in log (store (in_error_record (codes "newerror")) (value.Object (literal (kind.Boolean false))))

-- from a log on, a tree comes to what another comes to from another log on
abbrev pub Leads : Application (Option meaning.Report) → Log → Application (Option meaning.Report) → Log → Type 0
Leads t old u new = (out : List Output) → reached (applied t) old out ≡ reached (applied u) new out

-- however it goes on with what is told
abbrev pub Onward : Type 0 → Type 0
Onward A = A → Application (Option meaning.Report)
