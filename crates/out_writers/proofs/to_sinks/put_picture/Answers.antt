use Rattle.std.proofs.Common.{◌∙◌}
use Rattle.out_writers.proofs.Pictures.{header_cut, refused, rows_cut}
use Rattle.out_writers.proofs.to_sinks.put_picture.Goals as goal

pub returns-in_err-put-clause-cut : goal.returns-in_err-put-clause-cut
returns-in_err-put-clause-cut g c =
    refused c.from_residual-in_err-put.result _
    (header_cut c.args.paper.now c.as_slice.result.now (g.P.Sink.holds c.args.pages.now) (g.P.Sink.holds c.put.new.self) (c.as_slice.ensures ∙ c.in_ok-head.ensures) c.in_err-put.ensures.cut)

pub returns-in_err-put-2-clause-cut : goal.returns-in_err-put-2-clause-cut
returns-in_err-put-2-clause-cut g c =
    refused c.from_residual-in_err-put-2.result _
    (rows_cut c.args.paper.now c.as_slice.result.now c.as_bytes.result.now (g.P.Sink.holds c.args.pages.now) (g.P.Sink.holds c.put.new.self) (g.P.Sink.holds c.put-2.new.self)
    (c.as_slice.ensures ∙ c.in_ok-head.ensures) c.as_bytes.ensures.bytes c.in_ok-put.ensures.appended c.in_err-put-2.ensures.cut)
