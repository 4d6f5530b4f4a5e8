-- What is left comes to what the whole comes to, after each step.
use Rattle.std.proofs.Common.{sym, ◌∙◌, rules}
use Rattle.ps_machine.specs.Runs.{whole_of}
use Rattle.ps_machine.proofs.Advancing as advancing
use Rattle.ps_machine.proofs.Loops.{smaller_after}
use Rattle.ps_machine.proofs.Stands.{round, refused}
use Rattle.ps_machine.proofs.running.run.Goals as goal

pub loop-alloc-smaller : goal.loop-alloc-smaller
loop-alloc-smaller g c =
    smaller_after g.T.Operators.table g.met.T.Operators.lawful c.args.text.now c.loop-alloc.next c.in_ok-next.next c.loop-alloc.state c.advance.new.state
    (g.M.Mem.log c.loop-alloc.mem) (g.M.Mem.log c.advance.new.mem) (sym c.is_step.ensures ∙ c.loop-alloc-test.true) c.in_ok-next.ensures.comes

pub loop-alloc-preserved : goal.loop-alloc-preserved
loop-alloc-preserved g c = record {
  counted = search rules;
  stands = round g.O.Outlet.since g.met.O.Outlet.joined g.T.Operators.table g.met.T.Operators.lawful c.args.text.now
      (whole_of g.T.Operators.table c.args.text.now c.args.state.now) (g.M.Mem.log c.args.mem.now) c.args.out.now c.loop-alloc.out c.advance.new.out
      c.loop-alloc.next c.in_ok-next.next c.loop-alloc.state c.advance.new.state (g.M.Mem.log c.loop-alloc.mem) (g.M.Mem.log c.advance.new.mem)
      c.loop-alloc.last c.advance.new.last c.loop-alloc.invariant.stands (sym c.is_step.ensures ∙ c.loop-alloc-test.true)
      c.in_ok-next.ensures.comes c.in_ok-next.ensures.quiet c.in_ok-next.ensures.since c.in_ok-next.ensures.last;
}

pub returns-in_err-next-clause-cut : goal.returns-in_err-next-clause-cut
returns-in_err-next-clause-cut g c =
    advancing.refused c.from_residual.result _
    (refused g.O.Outlet.since g.O.Outlet.cut g.met.O.Outlet.joined_cut g.met.O.Outlet.longer g.T.Operators.table g.met.T.Operators.lawful c.args.text.now
    (whole_of g.T.Operators.table c.args.text.now c.args.state.now) (g.M.Mem.log c.args.mem.now) c.args.out.now c.loop-alloc.out c.advance.new.out
    c.loop-alloc.next c.loop-alloc.state (g.M.Mem.log c.loop-alloc.mem) c.loop-alloc.last c.loop-alloc.invariant.stands
    (sym c.is_step.ensures ∙ c.loop-alloc-test.true) c.in_err-next.ensures.cut)
