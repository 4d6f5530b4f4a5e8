use Rattle.std.proofs.Common.{ap, List}
use Rattle.stroke_build.specs.declared.side.Side.{Side}
use Rattle.stroke_build.specs.Outlines.{joins}
use Rattle.stroke_build.proofs.Drawn.{drawn_as}
use Rattle.stroke_build.proofs.Outlining.{rest_of}
use Rattle.stroke_build.proofs.outline.draw_turns.Goals as goal

pub returns : goal.returns
returns c = drawn_as _ _ _ _ _ (ap (λ (l : List Side). joins c.args.pen c.args.ring.now c.args.first l) (rest_of c.args.sides.now)) c.draw_joins.ensures
