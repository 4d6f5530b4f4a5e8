use Rattle.std.proofs.Common.{ap, subst}
use Rattle.ps_shapes.specs.Bits.{dot_of}
use Rattle.ps_shapes.specs.Sheet.{Sheet, IsWhole}
use Rattle.ps_shapes.proofs.Drawn.{whole_drawn}
use Rattle.ps_shapes.proofs.paper.Paper.width.Goals as goal

pub returns-clause-whole : goal.returns-clause-whole
returns-clause-whole c =
    let p = c.self.inside in
    subst (λ (s : Sheet). IsWhole s) c.self.view_is (whole_drawn p.width p.height (dot_of p.stride p.bytes.items))
