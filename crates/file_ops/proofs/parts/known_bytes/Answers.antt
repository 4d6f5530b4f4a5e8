use Rattle.std.proofs.Common.{arith}
use Rattle.file_ops.proofs.Bytes.{by_index}
use Rattle.file_ops.proofs.parts.known_bytes.Goals as goal

pub returns : goal.returns
returns c = by_index c.args.bytes.now (λ i. let f = c.type_inv.bytes i in omega arith)
