-- By the lemmas of one item.
use Rattle.std.proofs.Common.{[], ◌≡◌, ◌-◌, suc, sym, ap, ◌∙◌, subst, arith}
use Rattle.ps_execution.specs.Execution.{on}
use Rattle.ps_execution.specs.Machine.{move_turn}
use Rattle.ps_execution.specs.Objects.{executes}
use Rattle.ps_execution.specs.Reached.{reached}
use Rattle.ps_steps.specs.Met.{object_of}
use Rattle.ps_steps.specs.Next.{program, Comes}
use Rattle.ps_steps.proofs.Bodies.{array_here, next_item}
use Rattle.ps_steps.proofs.procedures.take_item.Goals as goal

pub returns : goal.returns
returns g c =
    let P = program g.T.Operators.table c.args.text.now in
    let a = c.args.array in
    let i = c.args.at in
    let s = c.args.state.now in
    let log = g.M.Mem.log c.args.mem.now in
    let there = g.M.Mem.log c.item.new.mem in
    let x = object_of c.in_ok-met.met in
    let some = c.if-at-array.false in
    let more = c.if-array-at-eq1.false in
    let e : a.len - i ≡ suc (suc (a.len - i - 2)) = omega (arith, some, more) in
    subst (λ r. Comes r c.turn-2.result c.turn-2.new.state (g.M.Mem.log c.turn-2.new.mem))
    (sym (next_item P c.args.body a.cell a.start i s log [] (a.len - i) (a.len - i - 2) there x e c.in_ok-met.ensures.log c.in_ok-met.ensures.value
    ∙ ap (λ fs. reached (move_turn P x (executes P x) (on fs s)) there []) (sym c.in_ok-push.ensures.ok)))
    c.turn-2.ensures

pub item-requires-clause-array : goal.item-requires-clause-array
item-requires-clause-array g c = array_here c.args.text.now c.args.body c.args.array c.args.at c.args.state.now (g.M.Mem.log c.args.mem.now).view c.requires.ready c.requires.array
