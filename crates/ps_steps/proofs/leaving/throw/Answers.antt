-- By the lemmas of one frame.
use Rattle.std.proofs.Common.{[], true, false, refl, sym, ◌∙◌}
use Rattle.ps_execution.specs.Execution.{on}
use Rattle.ps_steps.specs.Next.{program}
use Rattle.ps_steps.proofs.Throws.{taken_so, passes_so, fewer_frames, left_if}
use Rattle.ps_steps.proofs.leaving.throw.Goals as goal

pub returns-then-branch : goal.returns-then-branch
returns-then-branch g c =
    let P = program g.T.Operators.table c.args.text.now in
    let s = c.loop-frame.state in
    let popped = on c.pop.new.self s in
    sym c.loop-frame.invariant.rest
    ∙ taken_so P c.in-Some.frame c.args.stop s popped c.takes-taken.new.state (g.M.Mem.log c.loop-frame.mem) (g.M.Mem.log c.takes-taken.new.mem) c.in-Some.ensures refl
    (left_if P c.in-Some.frame c.args.stop c.in_ok-taken.field-0 true popped c.takes-taken.new.state (g.M.Mem.log c.loop-frame.mem) (g.M.Mem.log c.takes-taken.new.mem) c.if-branch.true c.in_ok-taken.ensures.left) []

pub loop-frame-smaller : goal.loop-frame-smaller
loop-frame-smaller g c =
    let P = program g.T.Operators.table c.args.text.now in
    let s = c.loop-frame.state in
    let popped = on c.pop.new.self s in
    fewer_frames P c.in-Some.frame c.args.stop c.in_ok-taken.field-0 s popped c.takes-taken.new.state (g.M.Mem.log c.loop-frame.mem) (g.M.Mem.log c.takes-taken.new.mem) c.in-Some.ensures c.in_ok-taken.ensures.left

pub loop-frame-preserved : goal.loop-frame-preserved
loop-frame-preserved g c =
    let P = program g.T.Operators.table c.args.text.now in
    let s = c.loop-frame.state in
    let popped = on c.pop.new.self s in
    record {
      here = c.in_ok-taken.ensures.here;
      rest =
          passes_so P c.in-Some.frame c.args.stop s popped c.takes-taken.new.state (g.M.Mem.log c.loop-frame.mem) (g.M.Mem.log c.takes-taken.new.mem) c.in-Some.ensures refl
          (left_if P c.in-Some.frame c.args.stop c.in_ok-taken.field-0 false popped c.takes-taken.new.state (g.M.Mem.log c.loop-frame.mem) (g.M.Mem.log c.takes-taken.new.mem) c.if-branch.false c.in_ok-taken.ensures.left) []
          ∙ c.loop-frame.invariant.rest;
    }
