use Rattle.std.proofs.Common.{◌≡◌, true, sym, ◌∙◌, subst, arith}
use Rattle.ps_meaning.specs.Answer.{Log}
use Rattle.ps_meaning.specs.Ready.{Ready}
use Rattle.object_ops.specs.Binding.{Walk, seen, stands}
use Rattle.object_ops.proofs.Walking.{part_stands, rest_stands, step_stands, walk_step}
use Rattle.object_ops.proofs.binding.Binder.walk.Goals as goal

pub loop-preserved : goal.loop-preserved
loop-preserved g c =
    let log = g.M.Mem.log in
    let s = c.args.state.now in
    let old : Log = log c.loop.mem in
    let new : Log = log c.step.new.mem in
    let w : Walk = seen c.loop.self in
    let v : Walk = seen c.step.new.self in
    let p = c.in-Some.part in
    let ps = c.pop.new.self in
    let r : Ready s old.view = subst (Ready s) (sym c.loop.invariant.view) c.requires.ready in
    let here = part_stands old.view w p ps c.in-Some.ensures c.loop.invariant.stands in
    let rest = rest_stands old.view w p ps c.in-Some.ensures c.loop.invariant.stands in
    record {
      told = sym (walk_step s.regs.dicts c.args.steps c.loop.counter w old p ps v new (omega (arith, c.loop-test.true)) c.in-Some.ensures c.in_ok-step.ensures.told) ∙ c.loop.invariant.told;
      view = c.in_ok-step.ensures.view ∙ c.loop.invariant.view;
      stands = subst (λ M. stands M v ≡ true) (sym c.in_ok-step.ensures.view) (step_stands s p (record w { parts = ps }) v old new r rest here c.in_ok-step.ensures.told);
    }
