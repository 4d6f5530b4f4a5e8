use Rattle.std.proofs.Common.{◌<◌, ◌≤◌, ◌++◌, arith}
use Rattle.dump_text.specs.Papers.{rows_text}
use Rattle.dump_text.proofs.Rows.{all_rows, one_row}
use Rattle.dump_text.proofs.papers.push_rows.Goals as goal

pub loop-row-preserved : goal.loop-row-preserved
loop-row-preserved c =
    one_row c.args.stride c.args.rows c.loop-row.row c.loop-row.rest.now c.first_row.result.now c.rows_below-rest.result.now
    (c.args.text.now ++ rows_text c.args.stride c.args.rows c.args.bytes.now) c.loop-row.text c.push_row.new.text
    (omega (arith, c.loop-row-test.true)) c.first_row.ensures c.rows_below-rest.ensures c.in_ok-push_row.ensures c.loop-row.invariant

pub returns : goal.returns
returns c =
    all_rows c.args.stride c.args.rows c.loop-row.row c.loop-row.rest.now (c.args.text.now ++ rows_text c.args.stride c.args.rows c.args.bytes.now) c.loop-row.text
    (omega (arith, c.loop-row-test.false)) c.loop-row.invariant
