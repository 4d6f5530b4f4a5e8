-- By the lemmas of an object to which a name led.
use Rattle.std.proofs.Common.{sym, subst}
use Rattle.ps_steps.specs.Next.{program}
use Rattle.ps_steps.specs.Operators.{Executed}
use Rattle.ps_steps.proofs.Executes.{value_literal, value_procedure, value_string, value_other, by_push, by_procedure}
use Rattle.ps_steps.proofs.Raises.{page_here, if_ok, if_viewed}
use Rattle.ps_steps.proofs.executing.run_value.Goals as goal

pub returns-then-not-object-clause-meets : goal.returns-then-not-object-clause-meets
returns-then-not-object-clause-meets g c =
    let P = program g.T.Operators.table c.args.text.now in
    let log = g.M.Mem.log c.args.mem.now in
    by_push P c.args.object c.args.state.now log c.pushed.result c.pushed.new.state (value_literal P c.args.object c.args.state.now log (sym c.in_default.ensures) c.if-not-object.true) c.pushed.ensures

pub returns-in-Some-procedure_of-clause-meets : goal.returns-in-Some-procedure_of-clause-meets
returns-in-Some-procedure_of-clause-meets g c =
    let P = program g.T.Operators.table c.args.text.now in
    let log = g.M.Mem.log c.args.mem.now in
    let n = c.in-Some-procedure_of.len in
    by_procedure P c.args.object c.args.state.now log n c.procedure_run.result (value_procedure P c.args.object c.args.state.now log n (sym c.in_default.ensures) c.if-not-object.false (sym c.in-Some-procedure_of.ensures)) c.procedure_run.ensures

pub returns-clause-meets : goal.returns-clause-meets
returns-clause-meets g c =
    let P = program g.T.Operators.table c.args.text.now in
    let log = g.M.Mem.log c.args.mem.now in
    by_push P c.args.object c.args.state.now log c.pushed-2.result c.pushed-2.new.state
    (value_other P c.args.object c.args.state.now log (sym c.in_default.ensures) c.if-not-object.false (sym c.in_default-procedure_of.ensures) (sym c.in_default-string_of.ensures) (sym c.if-is_null.ensures)) c.pushed-2.ensures

pub returns-then-not-object-clause-here : goal.returns-then-not-object-clause-here
returns-then-not-object-clause-here g c = if_ok c.pushed.result (page_here 1 c.args.text.now c.args.state.now (g.M.Mem.log c.args.mem.now).view c.requires.ready)

pub returns-in-Some-procedure_of-clause-here : goal.returns-in-Some-procedure_of-clause-here
returns-in-Some-procedure_of-clause-here g c = if_ok c.procedure_run.result (page_here 1 c.args.text.now c.args.state.now (g.M.Mem.log c.args.mem.now).view c.requires.ready)

pub returns-in-Some-string_of-clause-meets : goal.returns-in-Some-string_of-clause-meets
returns-in-Some-string_of-clause-meets g c =
    let P = program g.T.Operators.table c.args.text.now in
    let log = g.M.Mem.log c.args.mem.now in
    subst (λ a. Executed c.args.object a c.string_run.result c.args.state.now (g.M.Mem.log c.string_run.new.mem))
    (sym (value_string P c.args.object c.args.state.now log c.in-Some-string_of.string (sym c.in_default.ensures) c.if-not-object.false (sym c.in-Some-string_of.ensures)))
    c.string_run.ensures.meets

pub returns-in-Some-string_of-clause-here : goal.returns-in-Some-string_of-clause-here
returns-in-Some-string_of-clause-here g c =
    if_viewed c.string_run.result (g.M.Mem.log c.args.mem.now).view (g.M.Mem.log c.string_run.new.mem).view c.string_run.ensures.view
    (page_here 1 c.args.text.now c.args.state.now (g.M.Mem.log c.args.mem.now).view c.requires.ready)

pub returns-then-is_null-clause-here : goal.returns-then-is_null-clause-here
returns-then-is_null-clause-here g c = page_here 1 c.args.text.now c.args.state.now (g.M.Mem.log c.args.mem.now).view c.requires.ready

pub returns-clause-here : goal.returns-clause-here
returns-clause-here g c = if_ok c.pushed-2.result (page_here 1 c.args.text.now c.args.state.now (g.M.Mem.log c.args.mem.now).view c.requires.ready)
