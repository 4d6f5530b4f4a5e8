use Rattle.std.proofs.Common.{sym, ap, ◌∙◌}
use Rattle.ps_operator.specs.Looks.{or_absent}
use Rattle.ps_operator.proofs.LookSteps.{sought_told, sought_other}
use Rattle.ps_operator.proofs.search.find.Goals as goal

pub returns-in-Some-clause-told : goal.returns-in-Some-clause-told
returns-in-Some-clause-told g c =
    let log = g.M.Mem.log in
    sought_told c.args.dicts.now c.args.key (log c.args.mem.now) (log c.seek.new.mem) c.in-Ok.sought c.in-Some.object c.in-Ok.ensures.told (sym c.in-Some.ensures)

pub returns-clause-told : goal.returns-clause-told
returns-clause-told g c =
    let log = g.M.Mem.log in
    sought_other c.args.dicts.now c.args.key (log c.args.mem.now) (log c.seek.new.mem) c.in-Ok.sought c.in-Some-2.object (log c.look_entry.new.mem) c.in-Ok.ensures.told (c.in_ok-object.ensures.value ∙ ap or_absent c.in-Some-2.is) c.in_ok-object.ensures.looked
