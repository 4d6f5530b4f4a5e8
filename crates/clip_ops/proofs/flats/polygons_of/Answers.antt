use Rattle.clip_ops.proofs.Judging.{polygons_read}
use Rattle.clip_ops.proofs.flats.polygons_of.Goals as goal

pub returns : goal.returns
returns c = polygons_read c.args.path.now c.flat.result c.told_flat.result c.flat.ensures c.told_flat.ensures
