use Rattle.std.proofs.Common.{◌∙◌}
use Rattle.ps_objects.specs.contracts.key.KeyOrd.TheImpl.Laws as key_laws
use Rattle.dense_dict.proofs.entries.are_same.Goals as goal

pub returns : goal.returns
returns c = c.eq.ensures ∙ key_laws.lawful.matches_eq c.args.key.now c.args.other.now
