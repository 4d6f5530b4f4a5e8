use Rattle.std.proofs.Common.{◌+◌, ◌*◌, ◌≤◌, List, length}
use Rattle.dsc_split.specs.declared.mark.Mark.{Mark}
use Rattle.dsc_split.specs.declared.mark.Marks.{Marks}
use Rattle.dsc_split.specs.Marks.{marks_from}
use Rattle.dsc_split.specs.Sections.{sections_of}
use Rattle.dsc_split.specs.Cuts.{IsOrdered, Leads}
use Rattle.dsc_split.proofs.cutter.split.Given as goal

abbrev marks_left : Marks → List Mark
marks_left marks = marks_from marks.depth marks.at marks.job.now

abbrev pub invariant-loop-mark : goal.invariant-loop-mark
invariant-loop-mark l =
    (goal.iterator-loop-mark).can_next l.mark-iterator ×
    (goal.iterator-loop-mark).is_finite l.mark-iterator ×
    IsOrdered l.cutter.from l.end (marks_left l.mark-iterator) ×
    (l.cutter.number + 2 * length (marks_left l.mark-iterator) ≤ 1000000000) ×
    Leads l.cutter l.end (marks_left l.mark-iterator) (sections_of l.job)
