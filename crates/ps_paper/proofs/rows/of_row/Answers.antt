use Rattle.std.proofs.Common.{◌-◌, ◌<◌, drop}
use Rattle.std.proofs.lemmas.List.Elements.{All-take, All-drop}
use Rattle.ps_shapes.specs.declared.span.Span.{Span}
use Rattle.ps_paper.proofs.Windows.{window}
use Rattle.ps_paper.proofs.rows.of_row.Goals as goal

pub returns-clause-same : goal.returns-clause-same
returns-clause-same c =
    let at = c.places-start.ensures in
    window c.args.spans.now c.args.row c.places-start.result.0 c.places-start.result.1 at.order at.bound at.above at.below

pub returns-clause-filled : goal.returns-clause-filled
returns-clause-filled c =
    let start = c.places-start.result.0 in
    All-take (λ (s : Span). s.first < s.past) (c.places-start.result.1 - start) (drop start c.args.spans.now) (All-drop (λ (s : Span). s.first < s.past) start c.args.spans.now c.requires.filled)
