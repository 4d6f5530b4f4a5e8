use Rattle.access_log.specs.Agreement.{AgreeBefore}
use Rattle.access_log.proofs.differs.first_other.Given as goal

-- the reads so far agree
abbrev pub invariant-loop-place : goal.invariant-loop-place
invariant-loop-place g l = AgreeBefore (g.B.Mem.log l.mem).view l.reads l.place
