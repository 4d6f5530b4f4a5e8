use Rattle.save_restore.proofs.Keeping.{run_keeps}
use Rattle.save_restore.proofs.laws.save_restore_lawful.Goals as goal

pub returns : goal.returns
returns c = run_keeps
