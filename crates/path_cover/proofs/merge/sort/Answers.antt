use Rattle.std.proofs.Common.{rules, ◌<◌, ◌≤◌}
use Rattle.std.proofs.lemmas.List.Sorted.{IsNonDecreasingBy-from_sort_by_key, All-permutation}
use Rattle.ps_shapes.specs.declared.span.Span.{Span}
use Rattle.ps_shapes.specs.Span.{holds}
use Rattle.path_cover.specs.Scattered.{place_of}
use Rattle.path_cover.proofs.Merging.{sym_any}
use Rattle.path_cover.proofs.merge.sort.Goals as goal

pub returns-clause-sorted : goal.returns-clause-sorted
returns-clause-sorted c = IsNonDecreasingBy-from_sort_by_key place_of _ c.sort_unstable_by_key.ensures.sorted (λ a r q k. search rules)

pub returns-clause-same : goal.returns-clause-same
returns-clause-same c = λ x y. sym_any (holds x y) _ _ c.sort_unstable_by_key.ensures.permutation

pub returns-clause-raw : goal.returns-clause-raw
returns-clause-raw c = λ width height raw. All-permutation (λ (s : Span). (s.row < height) × (s.first < s.past) × (s.past ≤ width)) _ _ c.sort_unstable_by_key.ensures.permutation raw
