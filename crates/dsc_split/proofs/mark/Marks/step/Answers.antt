use Rattle.dsc_split.proofs.MarkLemmas.{marks_step}
use Rattle.dsc_split.proofs.mark.Marks.step.Goals as goal

pub returns-clause-marks : goal.returns-clause-marks
returns-clause-marks c =
    marks_step c.args.self.now.depth c.args.self.now.at c.first_line-line.result.len c.data_len.result c.depth_after-self.result c.args.self.now.job.now
    c.split_at.result.1.now c.first_line-line.result.text.now c.split_at-2.result.1.now c.comment_of-comment.result c.mark_of-mark.result
    c.requires c.split_at.ensures.back c.first_line-line.ensures.text c.first_line-line.ensures.len c.split_at-2.ensures.back c.comment_of-comment.ensures
    c.data_len.ensures c.mark_of-mark.ensures c.depth_after-self.ensures.value
