use Rattle.operator_table.specs.Kept.{table_lawful}
use Rattle.operator_table.proofs.laws.operator_table_lawful.Goals as goal

pub returns : goal.returns
returns c = table_lawful
