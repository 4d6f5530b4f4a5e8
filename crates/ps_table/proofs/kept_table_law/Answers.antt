use Rattle.ps_table.proofs.Entry.{kept_table}
use Rattle.ps_table.proofs.kept_table_law.Goals as goal

pub returns : goal.returns
returns c = kept_table
