-- By the lemmas of the search.
use Rattle.std.proofs.Common.{[], Err, sym, ap, ◌∙◌, subst}
use Rattle.ps_operator.specs.Keys.{find}
use Rattle.ps_execution.specs.Machine.{raised}
use Rattle.ps_execution.specs.Reached.{came, settled}
use Rattle.ps_steps.specs.Executing.{name_object}
use Rattle.ps_steps.specs.Met.{object_of, Meets}
use Rattle.ps_steps.specs.Next.{program, Comes}
use Rattle.ps_steps.proofs.Led.{done_settled}
use Rattle.ps_steps.proofs.Searches.{name_led, name_lost, viewed_ready}
use Rattle.ps_steps.proofs.executing.run_name.Goals as goal

pub returns-in-Err-Error : goal.returns-in-Err-Error
returns-in-Err-Error g c =
    let P = program g.T.Operators.table c.args.text.now in
    let s = c.args.state.now in
    let log = g.M.Mem.log c.args.mem.now in
    let there = g.M.Mem.log c.found.new.mem in
    let told = subst (λ r. Meets (find s.regs.dicts c.args.key) log (Err r) there) c.in-Err-Error.field-0-is c.in-Err-Error.ensures.told in
    name_lost P c.args.key c.args.access s log there c.in-Err-Error.error told
    ∙ ap (λ x. came (raised c.in-Err-Error.error x s) there []) (sym c.named.ensures)
    ∙ ap (λ e. came (raised e c.named.result s) there []) (sym c.in-Err-Error.error-is)

pub run_found-requires-clause-ready : goal.run_found-requires-clause-ready
run_found-requires-clause-ready g c = viewed_ready c.args.text.now c.args.state.now (g.M.Mem.log c.args.mem.now) (g.M.Mem.log c.found.new.mem) c.in-Ok.ensures.view c.requires

pub returns-then-is_done : goal.returns-then-is_done
returns-then-is_done g c =
    let P = program g.T.Operators.table c.args.text.now in
    let there = g.M.Mem.log c.found.new.mem in
    let last = g.M.Mem.log c.run_found.new.mem in
    name_led P c.args.key c.args.access c.args.state.now (g.M.Mem.log c.args.mem.now) there (object_of c.in-Ok.met) c.in_ok-act.act c.run_found.new.state last c.in-Ok.ensures.told c.in_ok-act.ensures.meets
    ∙ done_settled P (name_object c.args.key c.args.access) c.in_ok-act.act c.run_found.new.state last (sym c.if-is_done.ensures)

pub returns : goal.returns
returns g c =
    let P = program g.T.Operators.table c.args.text.now in
    let there = g.M.Mem.log c.found.new.mem in
    let last = g.M.Mem.log c.run_found.new.mem in
    let u = c.run_found.new.state in
    subst (λ r. Comes r c.settle.result c.settle.new.state (g.M.Mem.log c.settle.new.mem))
    (sym (name_led P c.args.key c.args.access c.args.state.now (g.M.Mem.log c.args.mem.now) there (object_of c.in-Ok.met) c.in_ok-act.act u last c.in-Ok.ensures.told c.in_ok-act.ensures.meets
    ∙ ap (λ x. settled P x c.in_ok-act.act u last []) (sym c.named-2.ensures)))
    c.settle.ensures
