-- By the lemmas of one object that is read.
use Rattle.std.proofs.Common.{[], sym, ap, ◌∙◌, subst}
use Rattle.ps_execution.specs.Execution.{on}
use Rattle.ps_execution.specs.Machine.{raised}
use Rattle.ps_execution.specs.Machine.{move_turn}
use Rattle.ps_execution.specs.Objects.{executes}
use Rattle.ps_execution.specs.Reached.{reached, came}
use Rattle.ps_steps.specs.Next.{program, Comes}
use Rattle.ps_gather.specs.Ended.{spelt_of}
use Rattle.ps_reader.specs.Reading.{IsReady}
use Rattle.ps_gather.specs.declared.spelt.Spelt.TheVariants as spelt
use Rattle.ps_steps.proofs.Texts.{as_spelt, string_came, again_ready, again_fits}
use Rattle.ps_steps.proofs.reading.string_step.Goals as goal

pub turn-requires-clause-ready : goal.turn-requires-clause-ready
turn-requires-clause-ready g c =
    let log = g.M.Mem.log c.args.mem.now in
    let there = g.M.Mem.log c.read_string.new.mem in
    let s = c.args.state.now in
    let t = c.read_string.new.state in
    subst (λ fs. IsReady 1 c.args.text.now (on fs t) there.view) (sym c.in_ok-push-in-Object.ensures.ok)
    (again_ready c.args.text.now c.args.string c.args.bytes c.args.place s log there (record { spelt = spelt_of c.in_ok-spelt.spelt; place = c.in_ok-spelt.place; state = t }) c.requires c.in_ok-spelt.ensures)

pub turn-requires-clause-fits : goal.turn-requires-clause-fits
turn-requires-clause-fits g c =
    let log = g.M.Mem.log c.args.mem.now in
    let there = g.M.Mem.log c.read_string.new.mem in
    let s = c.args.state.now in
    again_fits c.args.text.now c.args.string c.args.bytes c.args.place s c.read_string.new.state log there c.in_ok-spelt.place c.in-Object.object c.requires
    (as_spelt c.args.bytes c.args.place s c.read_string.new.state log there c.in_ok-spelt.place c.in_ok-spelt.spelt (spelt.Object c.in-Object.object) c.in-Object.is c.in_ok-spelt.ensures)

pub returns-in-Nothing : goal.returns-in-Nothing
returns-in-Nothing g c =
    let log = g.M.Mem.log c.args.mem.now in
    let there = g.M.Mem.log c.read_string.new.mem in
    let s = c.args.state.now in
    string_came (program g.T.Operators.table c.args.text.now) c.args.string c.args.bytes c.args.place s log there (record { spelt = spelt_of spelt.Nothing; place = c.in_ok-spelt.place; state = c.read_string.new.state }) []
    (as_spelt c.args.bytes c.args.place s c.read_string.new.state log there c.in_ok-spelt.place c.in_ok-spelt.spelt spelt.Nothing c.in-Nothing.is c.in_ok-spelt.ensures)

pub returns-in_ok-push-in-Bad : goal.returns-in_ok-push-in-Bad
returns-in_ok-push-in-Bad g c =
    let log = g.M.Mem.log c.args.mem.now in
    let there = g.M.Mem.log c.read_string.new.mem in
    let s = c.args.state.now in
    let t = c.read_string.new.state in
    string_came (program g.T.Operators.table c.args.text.now) c.args.string c.args.bytes c.args.place s log there (record { spelt = spelt_of (spelt.Bad c.in-Bad.error); place = c.in_ok-spelt.place; state = t }) []
    (as_spelt c.args.bytes c.args.place s t log there c.in_ok-spelt.place c.in_ok-spelt.spelt (spelt.Bad c.in-Bad.error) c.in-Bad.is c.in_ok-spelt.ensures)
    ∙ ap (λ fs. came (raised c.in-Bad.error c.args.string (on fs t)) there []) (sym c.in_ok-push-in-Bad.ensures.ok)
    ∙ ap (λ x. came (raised c.in-Bad.error x (on c.push.new.self t)) there []) (sym c.in_ok-object-in-Bad.ensures)

pub returns-in_ok-push-in-Object : goal.returns-in_ok-push-in-Object
returns-in_ok-push-in-Object g c =
    let P = program g.T.Operators.table c.args.text.now in
    let log = g.M.Mem.log c.args.mem.now in
    let there = g.M.Mem.log c.read_string.new.mem in
    let s = c.args.state.now in
    let t = c.read_string.new.state in
    let x = c.in-Object.object in
    subst (λ r. Comes r c.turn.result c.turn.new.state (g.M.Mem.log c.turn.new.mem))
    (sym (string_came P c.args.string c.args.bytes c.args.place s log there (record { spelt = spelt_of (spelt.Object x); place = c.in_ok-spelt.place; state = t }) []
    (as_spelt c.args.bytes c.args.place s t log there c.in_ok-spelt.place c.in_ok-spelt.spelt (spelt.Object x) c.in-Object.is c.in_ok-spelt.ensures)
    ∙ ap (λ fs. reached (move_turn P x (executes P x) (on fs t)) there []) (sym c.in_ok-push-in-Object.ensures.ok)))
    c.turn.ensures
