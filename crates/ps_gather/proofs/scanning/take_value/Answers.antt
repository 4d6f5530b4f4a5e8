use Rattle.std.proofs.Common.{Err, sym, subst}
use Rattle.ps_objects.specs.declared.key.Key.TheVariants as key
use Rattle.ps_execution.specs.Gather as meaning
use Rattle.ps_operator.specs.Keys.{find}
use Rattle.ps_operator.specs.Owes.{Yields}
use Rattle.ps_gather.specs.Gathered.{told, Goes}
use Rattle.ps_gather.proofs.Names.{value_goes, missed_goes, missed_view}
use Rattle.ps_scan.specs.declared.tokens.Token.TheVariants as token
use Rattle.ps_gather.proofs.scanning.take_value.Goals as goal

pub returns-in_ok-complete_value-in-Ok-clause-goes : goal.returns-in_ok-complete_value-in-Ok-clause-goes
returns-in_ok-complete_value-in-Ok-clause-goes g c =
    let log = g.M.Mem.log in
    value_goes c.args.state.now c.args.name c.args.gathering.now (log c.args.mem.now) (log c.find.new.mem) c.in-Ok.object c.in_ok-complete_value-in-Ok.field-0 c.complete_value.new.gathering c.in-Ok.ensures.told c.in_ok-complete_value-in-Ok.ensures.is

pub returns-in-Err-Error-clause-view : goal.returns-in-Err-Error-clause-view
returns-in-Err-Error-clause-view g c =
    let log = g.M.Mem.log in
    missed_view c.args.state.now.regs.dicts (key.Name c.args.name) (log c.args.mem.now) (log c.find.new.mem) c.in-Err-Error.field-0-0
    (subst (λ r. Yields (find c.args.state.now.regs.dicts (key.Name c.args.name)) (log c.args.mem.now) (Err r) (log c.find.new.mem)) c.in-Err-Error.field-0-is c.in-Err-Error.ensures.told)

pub returns-in-Err-Error-clause-goes : goal.returns-in-Err-Error-clause-goes
returns-in-Err-Error-clause-goes g c =
    let log = g.M.Mem.log in
    let s = c.args.state.now in
    subst (λ r. Goes (λ k place. meaning.gather_token k s (token.Now c.args.name) place (told s c.args.gathering.now)) s (log c.args.mem.now) r c.args.gathering.now (log c.find.new.mem)) (sym c.bad.ensures)
    (missed_goes s c.args.name c.args.gathering.now (log c.args.mem.now) (log c.find.new.mem) c.in-Err-Error.field-0-0
    (subst (λ r. Yields (find s.regs.dicts (key.Name c.args.name)) (log c.args.mem.now) (Err r) (log c.find.new.mem)) c.in-Err-Error.field-0-is c.in-Err-Error.ensures.told))
