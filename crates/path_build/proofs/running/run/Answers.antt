-- What the machine is told of an operator that needs no memory.
use Rattle.std.proofs.Common.{◌≡◌, ℕ, sym, subst, ◌∙◌}
use Rattle.ps_operator.specs.Owes.{Runs}
use Rattle.ps_operator.proofs.Then.{told_gives, told_done_gives}
use Rattle.path_build.specs.Operators as spec
use Rattle.path_build.specs.Walks.{pathforall}
use Rattle.path_build.proofs.running.run.Goals as goal

pub returns-then-index-eq-PATHFORALL : goal.returns-then-index-eq-PATHFORALL
returns-then-index-eq-PATHFORALL g c =
    let log = g.M.Mem.log c.args.mem.now in
    let s = c.args.state.now in
    let u = c.pathforall.new.state in
    let same : c.args.op ≡ 188 = sym c.index.ensures.value ∙ c.if-index-eq-PATHFORALL.true in
    subst (λ n. Runs (spec.run n) s log c.told.result u log) (sym same)
    (subst (λ r. Runs pathforall s log r u log) (sym c.told.ensures) (told_gives pathforall s log c.pathforall.result u log (c.pathforall.ensures log)))

pub returns-else-index-eq-PATHFORALL : goal.returns-else-index-eq-PATHFORALL
returns-else-index-eq-PATHFORALL g c =
    let log = g.M.Mem.log c.args.mem.now in
    let s = c.args.state.now in
    let u = c.run_done.new.state in
    subst (λ r. Runs (spec.run c.args.op) s log r u log) (sym c.told_done.ensures)
    (told_done_gives (spec.run c.args.op) s log c.run_done.result u log (c.run_done.ensures log))
