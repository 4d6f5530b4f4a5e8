use Rattle.std.proofs.Common.{nat_lt, rules}
use Rattle.std.proofs.lemmas.Bool.{ltb-true, ltb-false}
use Rattle.std.proofs.lemmas.List.Sorted.{IsPartitionPoint-from_clause, IsPartitionedBy-ltb}
use Rattle.ps_paper.proofs.rows.first_in.Goals as goal

pub returns-clause-above : goal.returns-clause-above
returns-clause-above c =
    let parted = IsPartitionedBy-ltb (λ s. s.row) _ c.args.row c.requires in
    let point = IsPartitionPoint-from_clause (λ s. nat_lt s.row c.args.row) _ _ c.partition_point.ensures.partitioned parted (λ a r q k. search rules) in
    λ k d p q. ltb-true _ _ (point.0 k d p q)

pub returns-clause-rest : goal.returns-clause-rest
returns-clause-rest c =
    let parted = IsPartitionedBy-ltb (λ s. s.row) _ c.args.row c.requires in
    let point = IsPartitionPoint-from_clause (λ s. nat_lt s.row c.args.row) _ _ c.partition_point.ensures.partitioned parted (λ a r q k. search rules) in
    λ k d p q. ltb-false _ _ (point.1 k d p q)
