-- The sections of a job in sequence, on one memory.
use Rattle.std.specs.Prelude.{ℕ, List, [], ◌∷◌, ◌++◌}
use Rattle.ps_shapes.specs.Sheet.{Sheet}
use Rattle.ps_objects.specs.declared.settings.Settings.{Settings}
use Rattle.ps_kinds.specs.declared.regs.Regs.{Regs}
use Rattle.ps_memory.specs.Memory.{Memory, Output}
use Rattle.ps_memory.specs.Tree.{Tree, result, after, trail, told_by}
use Rattle.ps_meaning.specs.Start.{start_memory, start_registers}
use Rattle.ps_execution.specs.Section.{End, Through, Stopped, Quitted, OutOfTurns, SectionResult, section_meaning}
use Rattle.ps_execution.specs.Table.{Table}
use Rattle.dsc_split.specs.Sections.{text_of}
use Rattle.dsc_split.specs.declared.section.Section.{Section}
use Rattle.ps_machine.specs.Lines.{papers_of}
use Rattle.ps_machine.specs.SectionText.{section_text}

-- a job's bytes, and what they are interpreted with
pub record Job : Type 0 where
  pub table : Table
  pub settings : Settings
  pub moment : ℕ
  pub bytes : List ℕ

-- what some sections have come to: registers and memory, the papers shown, the text said, and how the last that ran has ended
pub record Progress : Type 0 where
  pub regs : Regs
  pub memory : Memory
  pub papers : List Sheet
  pub text : List ℕ
  pub end : End

-- registers and memory after such an end, with nothing written since
abbrev pub stood : Regs → Memory → End → Progress
stood R M e = record { regs = R; memory = M; papers = []; text = []; end = e }

-- before any section, from these registers and this memory
abbrev pub begun : Regs → Memory → Progress
begun R M = stood R M Through

-- a job's bytes, and what they are interpreted with
abbrev pub job_of : Table → Settings → ℕ → List ℕ → Job
job_of T settings moment bytes = record { table = T; settings = settings; moment = moment; bytes = bytes }

-- a section's run, from these registers
abbrev pub section_run : Job → Section → Regs → Tree SectionResult
section_run J x R = section_meaning (record { table = J.table; text = text_of J.bytes x }) J.settings J.moment x.number x.kind R

-- what a section has come to that gave out these outputs
abbrev pub gone_on : Progress → SectionResult → Memory → List Output → Progress
gone_on p r M out = record { regs = r.regs; memory = M; papers = p.papers ++ papers_of out; text = p.text ++ section_text r out; end = r.end }

-- a run from where the sections before it have come to
abbrev pub after_run : Tree SectionResult → Progress → Progress
after_run t p = gone_on p (result t p.memory) (after t p.memory) (told_by (trail t p.memory))

-- a section more: after an end other than Through it changes nothing
abbrev pub after_end : End → Tree SectionResult → Progress → Progress
after_end Through t p = after_run t p
after_end Stopped t p = p
after_end Quitted t p = p
after_end OutOfTurns t p = p

-- sections in order
abbrev pub sequence_from : Job → List Section → Progress → Progress
sequence_from J [] p = p
sequence_from J (x ∷ xs) p = sequence_from J xs (after_end p.end (section_run J x p.regs) p)

-- sections in order, from the registers and the memory of the start
abbrev pub sequence_meaning : Job → List Section → Progress
sequence_meaning J xs = sequence_from J xs (begun (start_registers J.settings) (start_memory J.settings))
