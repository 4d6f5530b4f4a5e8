-- What a section writes: its pages, and its text with what is said of its end.
use Rattle.std.specs.Prelude.{ℕ, List, [], ◌++◌, codes, Option, Some, None}
use Rattle.ps_memory.specs.Memory.{Output}
use Rattle.ps_execution.specs.Section.{Told, Report, End, Through, Stopped, Quitted, OutOfTurns, SectionResult}
use Rattle.plain_texts.specs.Plain.{no_string_value, plain_text}
use Rattle.out_writers.specs.Texts.{flushing_line, report_text}
use Rattle.ps_machine.specs.Lines.{messages_of, line_ended}

-- the plain text of an object that the report tells; one that is missing has none of its own
abbrev pub told_text : Option Told → List ℕ
told_text (Some t) = plain_text t.object t.bytes
told_text None = no_string_value

-- the report of an error that stopped the section, or the flushing line alone
abbrev pub stop_text : Option Report → List ℕ
stop_text (Some r) = report_text (told_text r.name) (told_text r.command)
stop_text None = flushing_line

-- the report of turns that are spent
abbrev pub timeout_text : List ℕ
timeout_text = report_text (codes "timeout") no_string_value

-- what is said of the end
abbrev pub text_of_end : End → Option Report → List ℕ
text_of_end Through r = []
text_of_end Stopped r = stop_text r
text_of_end Quitted r = []
text_of_end OutOfTurns r = timeout_text

-- what is said of a section's end, by its report
abbrev pub end_text : SectionResult → List ℕ
end_text r = text_of_end r.end r.report

-- all that a section says
abbrev pub section_text : SectionResult → List Output → List ℕ
section_text r out = line_ended (messages_of out) ++ end_text r
