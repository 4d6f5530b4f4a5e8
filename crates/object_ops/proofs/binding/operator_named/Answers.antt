use Rattle.std.proofs.Common.{Err, sym, subst}
use Rattle.ps_operator.specs.Keys.{find}
use Rattle.ps_operator.specs.Owes.{Finds, Yields}
use Rattle.object_ops.specs.Binding.{operator_named}
use Rattle.object_ops.proofs.Walking.{named_found, named_nowhere, looked_over}
use Rattle.object_ops.proofs.binding.operator_named.Goals as goal

pub returns-in-Ok-clause-told : goal.returns-in-Ok-clause-told
returns-in-Ok-clause-told g c =
    let log = g.M.Mem.log in
    subst (λ o. Finds (operator_named c.args.dicts.now c.args.name) (log c.args.mem.now) o (log c.find.new.mem)) (sym c.operator_in.ensures)
    (named_found c.args.dicts.now c.args.name (log c.args.mem.now) (log c.find.new.mem) c.in-Ok.object c.in-Ok.ensures.told)

pub returns-in-Err-Error-clause-view : goal.returns-in-Err-Error-clause-view
returns-in-Err-Error-clause-view g c =
    let log = g.M.Mem.log in
    looked_over c.args.dicts.now c.args.name (log c.args.mem.now) (log c.find.new.mem) c.in-Err-Error.field-0-0
    (subst (λ r. Yields (find c.args.dicts.now c.args.name) (log c.args.mem.now) (Err r) (log c.find.new.mem)) c.in-Err-Error.field-0-is c.in-Err-Error.ensures.told)

pub returns-in-Err-Error-clause-told : goal.returns-in-Err-Error-clause-told
returns-in-Err-Error-clause-told g c =
    let log = g.M.Mem.log in
    named_nowhere c.args.dicts.now c.args.name (log c.args.mem.now) (log c.find.new.mem) c.in-Err-Error.field-0-0
    (subst (λ r. Yields (find c.args.dicts.now c.args.name) (log c.args.mem.now) (Err r) (log c.find.new.mem)) c.in-Err-Error.field-0-is c.in-Err-Error.ensures.told)
