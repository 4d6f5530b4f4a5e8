use Rattle.std.proofs.Common.{nat_le, rules}
use Rattle.std.proofs.lemmas.Bool.{leb-true, leb-false}
use Rattle.std.proofs.lemmas.List.Sorted.{IsPartitionPoint-from_clause, IsPartitionedBy-leb}
use Rattle.ps_paper.proofs.rows.first_below.Goals as goal

pub returns-clause-above : goal.returns-clause-above
returns-clause-above c =
    let parted = IsPartitionedBy-leb (λ s. s.row) _ c.args.row c.requires in
    let point = IsPartitionPoint-from_clause (λ s. nat_le s.row c.args.row) _ _ c.partition_point.ensures.partitioned parted (λ a r q k. search rules) in
    λ k d p q. leb-true _ _ (point.0 k d p q)

pub returns-clause-rest : goal.returns-clause-rest
returns-clause-rest c =
    let parted = IsPartitionedBy-leb (λ s. s.row) _ c.args.row c.requires in
    let point = IsPartitionPoint-from_clause (λ s. nat_le s.row c.args.row) _ _ c.partition_point.ensures.partitioned parted (λ a r q k. search rules) in
    λ k d p q. leb-false _ _ (point.1 k d p q)
