use Rattle.std.proofs.Common.{length, ◌-◌, ◌≡◌}
use Rattle.dsc_split.specs.Marks.{marks_from}
use Rattle.dsc_split.proofs.mark.MarksIterator.next.Given as goal

abbrev pub invariant-loop-self : goal.invariant-loop-self
invariant-loop-self l =
    marks_from l.self.depth l.self.at l.self.job.now ≡ marks_from l.initial.self.depth l.initial.self.at l.initial.self.job.now

abbrev pub decreases-loop-self : goal.decreases-loop-self
decreases-loop-self l = length l.self.job.now - l.self.at
