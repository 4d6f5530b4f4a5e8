-- A section is its run, and then its end.
use Rattle.std.proofs.Common.{◌++◌, sym, ap, ◌∙◌, subst}
use Rattle.ps_execution.specs.Lawful.{SoundAt}
use Rattle.ps_execution.specs.Machine.{goes}
use Rattle.ps_machine.specs.Lines.{line_end_after}
use Rattle.ps_machine.proofs.Advancing.{refused}
use Rattle.ps_machine.proofs.Beginning.{begins_law}
use Rattle.ps_machine.proofs.Whole.{outer_here, refused_here, refused_at_end, refused_in_end, ran_here}
use Rattle.ps_machine.proofs.section.run_section.Goals as goal

pub run-requires : goal.run-requires
run-requires g c =
    subst (λ s. SoundAt c.args.input.now.text.now (goes s) (g.M.Mem.log c.args.mem.now).view) (sym c.fresh_state-state.ensures)
    (begins_law c.args.input.now.text.now c.args.input.now.settings.now c.args.input.now.moment c.args.input.now.number c.args.input.now.kind c.args.regs (g.M.Mem.log c.args.mem.now).view c.requires.positive c.requires.may_run)

pub returns-in_err-save-clause-cut : goal.returns-in_err-save-clause-cut
returns-in_err-save-clause-cut g c =
    refused c.from_residual.result _
    (refused_here g.T.Operators.table c.args.input.now.text.now c.args.input.now.settings.now c.args.input.now.moment c.args.input.now.number c.args.input.now.kind c.args.regs (g.M.Mem.log c.args.mem.now)
    g.O.Outlet.cut g.met.O.Outlet.longer c.fresh_state-state.result c.run.new.out c.args.out.now c.fresh_state-state.ensures c.in_err-save.ensures.cut)

pub returns-in-Outer-clause-runs : goal.returns-in-Outer-clause-runs
returns-in-Outer-clause-runs g c =
    outer_here g.T.Operators.table c.args.input.now.text.now c.args.input.now.settings.now c.args.input.now.moment c.args.input.now.number c.args.input.now.kind c.args.regs (g.M.Mem.log c.args.mem.now)
    g.O.Outlet.since c.fresh_state-state.result c.in_ok-save.field-0 c.in-Outer.save c.run.new.state (g.M.Mem.log c.run.new.mem) c.run.new.out c.args.out.now
    c.fresh_state-state.ensures c.in-Outer.is c.in_ok-save.ensures.ends

pub returns-in_err-said-in-Ended-clause-cut : goal.returns-in_err-said-in-Ended-clause-cut
returns-in_err-said-in-Ended-clause-cut g c =
    refused c.from_residual-in_err-said-in-Ended.result _
    (refused_at_end g.T.Operators.table c.args.input.now.text.now c.args.input.now.settings.now c.args.input.now.moment c.args.input.now.number c.args.input.now.kind c.args.regs (g.M.Mem.log c.args.mem.now)
    g.O.Outlet.since c.fresh_state-state.result c.in_ok-save.field-0 c.in-Ended.outcome c.in-Ended.last c.run.new.state (g.M.Mem.log c.run.new.mem) c.run.new.out c.args.out.now
    c.fresh_state-state.ensures c.in-Ended.is c.in_ok-save.ensures.ends
    g.O.Outlet.cut g.met.O.Outlet.whole g.met.O.Outlet.longer)

pub returns-in_err-closing-in-Ended-clause-cut : goal.returns-in_err-closing-in-Ended-clause-cut
returns-in_err-closing-in-Ended-clause-cut g c =
    refused c.from_residual-in_err-closing-in-Ended.result _
    (refused_at_end g.T.Operators.table c.args.input.now.text.now c.args.input.now.settings.now c.args.input.now.moment c.args.input.now.number c.args.input.now.kind c.args.regs (g.M.Mem.log c.args.mem.now)
    g.O.Outlet.since c.fresh_state-state.result c.in_ok-save.field-0 c.in-Ended.outcome c.in-Ended.last c.run.new.state (g.M.Mem.log c.run.new.mem) c.run.new.out c.args.out.now
    c.fresh_state-state.ensures c.in-Ended.is c.in_ok-save.ensures.ends
    g.O.Outlet.cut g.met.O.Outlet.whole g.met.O.Outlet.longer)

pub returns-in_err-extend-in-Ended-clause-cut : goal.returns-in_err-extend-in-Ended-clause-cut
returns-in_err-extend-in-Ended-clause-cut g c =
    refused c.from_residual-in_err-extend-in-Ended.result _
    (refused_at_end g.T.Operators.table c.args.input.now.text.now c.args.input.now.settings.now c.args.input.now.moment c.args.input.now.number c.args.input.now.kind c.args.regs (g.M.Mem.log c.args.mem.now)
    g.O.Outlet.since c.fresh_state-state.result c.in_ok-save.field-0 c.in-Ended.outcome c.in-Ended.last c.run.new.state (g.M.Mem.log c.run.new.mem) c.run.new.out c.args.out.now
    c.fresh_state-state.ensures c.in-Ended.is c.in_ok-save.ensures.ends
    g.O.Outlet.cut g.met.O.Outlet.whole g.met.O.Outlet.longer)

pub returns-in_err-say-in-Ended-clause-cut : goal.returns-in_err-say-in-Ended-clause-cut
returns-in_err-say-in-Ended-clause-cut g c =
    refused c.from_residual-in_err-say-in-Ended.result _
    (refused_in_end g.T.Operators.table c.args.input.now.text.now c.args.input.now.settings.now c.args.input.now.moment c.args.input.now.number c.args.input.now.kind c.args.regs (g.M.Mem.log c.args.mem.now)
    g.O.Outlet.since c.fresh_state-state.result c.in_ok-save.field-0 c.in-Ended.outcome c.in-Ended.last c.run.new.state (g.M.Mem.log c.run.new.mem) c.run.new.out c.args.out.now
    c.fresh_state-state.ensures c.in-Ended.is c.in_ok-save.ensures.ends
    (g.M.Mem.log c.close.new.mem) c.in_ok-closing-in-Ended.closing c.in_ok-closing-in-Ended.ensures c.extend.new.self
    (c.in_ok-extend-in-Ended.ensures.ok ∙ ap (λ t. t ++ c.as_slice.result.now) c.in_ok-said-in-Ended.ensures ∙ ap (λ b. line_end_after c.in-Ended.last ++ b) c.as_slice.ensures)
    g.O.Outlet.cut g.met.O.Outlet.joined_cut c.say.new.out c.in_err-say-in-Ended.ensures.cut)

pub returns-clause-runs : goal.returns-clause-runs
returns-clause-runs g c =
    ran_here g.T.Operators.table c.args.input.now.text.now c.args.input.now.settings.now c.args.input.now.moment c.args.input.now.number c.args.input.now.kind c.args.regs (g.M.Mem.log c.args.mem.now)
    g.O.Outlet.since c.fresh_state-state.result c.in_ok-save.field-0 c.in-Ended.outcome c.in-Ended.last c.run.new.state (g.M.Mem.log c.run.new.mem) c.run.new.out c.args.out.now
    c.fresh_state-state.ensures c.in-Ended.is c.in_ok-save.ensures.ends
    (g.M.Mem.log c.close.new.mem) c.in_ok-closing-in-Ended.closing c.in_ok-closing-in-Ended.ensures c.extend.new.self
    (c.in_ok-extend-in-Ended.ensures.ok ∙ ap (λ t. t ++ c.as_slice.result.now) c.in_ok-said-in-Ended.ensures ∙ ap (λ b. line_end_after c.in-Ended.last ++ b) c.as_slice.ensures)
    g.met.O.Outlet.joined c.say.new.out c.in_ok-say-in-Ended.ensures.said
