use Rattle.std.proofs.Common.{inl, arith}
use Rattle.std.proofs.lemmas.Int.{ints}
use Rattle.ps_scan.proofs.reals.near_scale.Goals as goal

pub returns-else-scale-ltminus100 : goal.returns-else-scale-ltminus100
returns-else-scale-ltminus100 c = inl (omega (arith, ints))
