use Rattle.std.proofs.Common.{◌≡◌, false, sym, subst}
use Rattle.ps_memory.specs.Ownership.{is_among}
use Rattle.access_log.specs.Reads.{places}
use Rattle.access_log.proofs.Reading.{noted_once}
use Rattle.access_log.proofs.log.ReadLog.note.Goals as goal

pub invariant_of-self-2 : goal.invariant_of-self-2
invariant_of-self-2 c =
    noted_once c.args.read c.self.inside.items.items c.push_read.new.items.items c.self.inside.index.entries c.push_read.new.index.entries
    (subst (λ rs. is_among c.args.read.at (places rs) ≡ false) (sym c.self.view_is) c.requires) c.in_ok-push_read.ensures.items c.in_ok-push_read.ensures.index c.self.invariant
