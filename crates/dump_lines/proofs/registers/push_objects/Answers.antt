use Rattle.std.proofs.Common.{◌<◌, arith}
use Rattle.dump_lines.specs.Objects.{object_text}
use Rattle.dump_lines.proofs.Pieces.{one_older}
use Rattle.dump_lines.proofs.registers.push_objects.Goals as goal

pub loop-done-preserved : goal.loop-done-preserved
loop-done-preserved c =
    one_older object_text c.args.objects.now c.loop-done.done c.len-count.result c.at.result.now c.args.text.now c.loop-done.text c.push.new.self c.push_object.new.text
    (omega (arith, c.loop-done-test.true)) c.len-count.ensures c.at.ensures c.loop-done.invariant c.in_ok-push.ensures.ok c.in_ok-push_object.ensures
