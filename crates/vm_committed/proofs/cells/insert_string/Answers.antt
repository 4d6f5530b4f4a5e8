use Rattle.vm_committed.proofs.WholeMaking.{put_and_taken}
use Rattle.vm_committed.proofs.cells.insert_string.Goals as goal

pub returns-in-Err-clause-same_strings : goal.returns-in-Err-clause-same_strings
returns-in-Err-clause-same_strings c = put_and_taken c.args.strings.now.entries c.insert.new.self.entries c.remove.new.self.entries c.args.cell c.args.bytes c.requires.unused c.in_ok-insert.ensures.updates.0 c.remove.ensures.updates.0
