use Rattle.clip_ops.proofs.Judging.{lines_read}
use Rattle.clip_ops.proofs.flats.lines_of.Goals as goal

pub returns : goal.returns
returns c = lines_read c.args.path.now c.flattened.result c.told_flat.result c.flattened.ensures c.told_flat.ensures
