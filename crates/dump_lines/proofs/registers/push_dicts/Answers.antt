use Rattle.std.proofs.Common.{◌<◌, arith}
use Rattle.dump_lines.specs.Objects.{dict_text}
use Rattle.dump_lines.proofs.Pieces.{one_older}
use Rattle.dump_lines.proofs.registers.push_dicts.Goals as goal

pub loop-done-preserved : goal.loop-done-preserved
loop-done-preserved c =
    one_older dict_text c.args.dicts.now c.loop-done.done c.len-count.result c.at.result.now c.args.text.now c.loop-done.text c.push.new.self c.push_dict.new.text
    (omega (arith, c.loop-done-test.true)) c.len-count.ensures c.at.ensures c.loop-done.invariant c.in_ok-push.ensures.ok c.in_ok-push_dict.ensures
