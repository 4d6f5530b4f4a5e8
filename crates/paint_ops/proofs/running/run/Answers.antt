-- What the machine is told of the operators that need no memory.
use Rattle.std.proofs.Common.{◌≡◌, sym, subst, ◌∙◌}
use Rattle.ps_operator.specs.Owes.{Runs}
use Rattle.ps_operator.proofs.Then.{told_gives}
use Rattle.paint_ops.specs.Operators as spec
use Rattle.paint_ops.specs.Pages.{showpage, copypage}
use Rattle.paint_ops.proofs.running.run.Goals as goal

pub returns-in-199 : goal.returns-in-199
returns-in-199 g c =
    let log = g.M.Mem.log c.args.mem.now in
    let s = c.args.state.now in
    let u = c.showpage.new.state in
    let same : c.args.op ≡ 199 = sym c.index.ensures.value ∙ c.in-199.is in
    subst (λ n. Runs (spec.run n) s log c.told.result u log) (sym same)
    (subst (λ r. Runs showpage s log r u log) (sym c.told.ensures) (told_gives showpage s log c.showpage.result u log (c.showpage.ensures log)))

pub returns-in-200 : goal.returns-in-200
returns-in-200 g c =
    let log = g.M.Mem.log c.args.mem.now in
    let s = c.args.state.now in
    let u = c.copypage.new.state in
    let same : c.args.op ≡ 200 = sym c.index.ensures.value ∙ c.in-200.is in
    subst (λ n. Runs (spec.run n) s log c.told-in-200.result u log) (sym same)
    (subst (λ r. Runs copypage s log r u log) (sym c.told-in-200.ensures) (told_gives copypage s log c.copypage.result u log (c.copypage.ensures log)))
