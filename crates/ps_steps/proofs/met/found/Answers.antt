-- By the lemmas of what glances tell.
use Rattle.std.proofs.Common.{ap, ◌∙◌}
use Rattle.ps_operator.specs.Looks.{or_absent}
use Rattle.ps_steps.proofs.Glances.{sought_met, sought_looked}
use Rattle.ps_steps.proofs.met.found.Goals as goal

pub returns-in-Some-clause-told : goal.returns-in-Some-clause-told
returns-in-Some-clause-told g c =
    let log = g.M.Mem.log in
    sought_met c.args.dicts.now c.args.key.now (log c.args.mem.now) (log c.seek.new.mem) c.in-Ok.sought c.in-Some.met c.in-Ok.ensures.told c.in-Some.ensures

pub returns-clause-told : goal.returns-clause-told
returns-clause-told g c =
    let log = g.M.Mem.log in
    sought_looked c.args.dicts.now c.args.key.now c.in_ok-same.same (log c.args.mem.now) (log c.seek.new.mem) (log c.look_entry.new.mem) c.in-Ok.sought c.in-Some-2.object c.in_ok-same.ensures c.in-Ok.ensures.told
    (c.in_ok-object.ensures.value ∙ ap or_absent c.in-Some-2.is) c.in_ok-object.ensures.looked
