use Rattle.std.proofs.Common.{◌≡◌, ◌-◌, true}
use Rattle.ps_operator.specs.Tree.{reads}
use Rattle.object_ops.specs.Binding.{seen, stands, walk}
use Rattle.object_ops.proofs.binding.Binder.walk.Given as goal

-- what is left finds what the whole does
abbrev pub invariant-loop : goal.invariant-loop
invariant-loop g l =
    let log = g.M.Mem.log in
    record {
      told : reads (walk (l.steps - l.counter) l.state.regs.dicts (seen l.self)) (log l.mem) ≡ reads (walk l.steps l.state.regs.dicts (seen l.fn.self)) (log l.fn.mem);
      view : (log l.mem).view ≡ (log l.fn.mem).view;
      stands : stands (log l.mem).view (seen l.self) ≡ true;
    }
