use Rattle.std.proofs.Common.{List, subst, sym}
use Rattle.ps_shapes.specs.declared.span.Span.{Span}
use Rattle.path_cover.specs.Scattered.{IsScattered}
use Rattle.path_cover.proofs.merge.merge.Goals as goal

pub join-requires-clause-raw : goal.join-requires-clause-raw
join-requires-clause-raw c = subst (λ (l : List Span). IsScattered c.args.width c.args.height l) (sym c.as_slice.ensures.value) (c.sort.ensures.raw c.args.width c.args.height c.requires)
