-- The entry of an error may be looked at.
use Rattle.ps_steps.proofs.Raises.{entry_stands}
use Rattle.ps_steps.proofs.raising.entry.Goals as goal

pub look-requires : goal.look-requires
look-requires g c = entry_stands 1 c.args.text.now c.args.state.now (g.M.Mem.log c.args.mem.now).view c.args.error c.in_ok-place.place c.in_ok-place.ensures c.requires
