-- By recursion over the sections.
use Rattle.section_sequence.proofs.Sections
use Rattle.section_sequence.proofs.Numbers
use Rattle.section_sequence.proofs.sequence_law.Goals as goal

pub returns-clause-starts : goal.returns-clause-starts
returns-clause-starts c = Sections.starts_law

pub returns-clause-ends : goal.returns-clause-ends
returns-clause-ends c = Sections.ends_law

pub returns-clause-in_order : goal.returns-clause-in_order
returns-clause-in_order c = Numbers.in_order_law

pub returns-clause-sequence : goal.returns-clause-sequence
returns-clause-sequence c = Numbers.sequence_law

pub returns-clause-job : goal.returns-clause-job
returns-clause-job c = Numbers.job_law
