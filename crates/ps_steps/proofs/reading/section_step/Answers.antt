-- By the lemmas of one object that is read.
use Rattle.std.proofs.Common.{[], sym, ap, ◌∙◌, subst}
use Rattle.ps_kinds.specs.declared.state.State.{State}
use Rattle.ps_execution.specs.Execution as execution
use Rattle.ps_execution.specs.Execution.{Read, on}
use Rattle.ps_execution.specs.Machine.{raised, ended}
use Rattle.ps_execution.specs.Reached.{came}
use Rattle.ps_steps.specs.Next.{program, Comes}
use Rattle.ps_gather.specs.Ended.{spelt_of}
use Rattle.ps_gather.specs.declared.spelt.Spelt.TheVariants as spelt
use Rattle.ps_steps.proofs.Texts.{as_spelt, section_came, placed_ready, placed_fits}
use Rattle.ps_steps.proofs.reading.section_step.Goals as goal

pub turn-requires-clause-ready : goal.turn-requires-clause-ready
turn-requires-clause-ready g c =
    placed_ready c.args.text.now c.args.state.now (g.M.Mem.log c.args.mem.now) (g.M.Mem.log c.read.new.mem) (record { spelt = spelt_of c.in_ok-spelt.spelt; place = c.in_ok-spelt.place; state = c.read.new.state }) c.requires.ready c.in_ok-spelt.ensures

pub turn-requires-clause-fits : goal.turn-requires-clause-fits
turn-requires-clause-fits g c =
    let log = g.M.Mem.log c.args.mem.now in
    let there = g.M.Mem.log c.read.new.mem in
    let s = c.args.state.now in
    placed_fits c.args.text.now s c.read.new.state log there c.in_ok-spelt.place c.in-Object.object c.requires.ready
    (as_spelt c.args.text.now s.place s c.read.new.state log there c.in_ok-spelt.place c.in_ok-spelt.spelt (spelt.Object c.in-Object.object) c.in-Object.is c.in_ok-spelt.ensures)

pub returns-in-Nothing : goal.returns-in-Nothing
returns-in-Nothing g c =
    let log = g.M.Mem.log c.args.mem.now in
    let there = g.M.Mem.log c.read.new.mem in
    let s = c.args.state.now in
    let t : State = record c.read.new.state { place = c.in_ok-spelt.place } in
    section_came (program g.T.Operators.table c.args.text.now) s log there (record { spelt = spelt_of spelt.Nothing; place = c.in_ok-spelt.place; state = c.read.new.state }) []
    (as_spelt c.args.text.now s.place s c.read.new.state log there c.in_ok-spelt.place c.in_ok-spelt.spelt spelt.Nothing c.in-Nothing.is c.in_ok-spelt.ensures)
    ∙ ap (λ fs. came (ended execution.Next (on fs t)) there []) (sym c.clear.ensures)

pub returns-in-Bad : goal.returns-in-Bad
returns-in-Bad g c =
    let log = g.M.Mem.log c.args.mem.now in
    let there = g.M.Mem.log c.read.new.mem in
    let s = c.args.state.now in
    let t : State = record c.read.new.state { place = c.in_ok-spelt.place } in
    section_came (program g.T.Operators.table c.args.text.now) s log there (record { spelt = spelt_of (spelt.Bad c.in-Bad.error); place = c.in_ok-spelt.place; state = c.read.new.state }) []
    (as_spelt c.args.text.now s.place s c.read.new.state log there c.in_ok-spelt.place c.in_ok-spelt.spelt (spelt.Bad c.in-Bad.error) c.in-Bad.is c.in_ok-spelt.ensures)
    ∙ ap (λ x. came (raised c.in-Bad.error x t) there []) (sym c.file.ensures)

pub returns-in-Object : goal.returns-in-Object
returns-in-Object g c =
    let log = g.M.Mem.log c.args.mem.now in
    let there = g.M.Mem.log c.read.new.mem in
    let s = c.args.state.now in
    subst (λ r. Comes r c.turn.result c.turn.new.state (g.M.Mem.log c.turn.new.mem))
    (sym (section_came (program g.T.Operators.table c.args.text.now) s log there (record { spelt = spelt_of (spelt.Object c.in-Object.object); place = c.in_ok-spelt.place; state = c.read.new.state }) []
    (as_spelt c.args.text.now s.place s c.read.new.state log there c.in_ok-spelt.place c.in_ok-spelt.spelt (spelt.Object c.in-Object.object) c.in-Object.is c.in_ok-spelt.ensures)))
    c.turn.ensures
