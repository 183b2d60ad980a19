use Rattle.std.proofs.Common.{nat_lt, rules}
use Rattle.std.proofs.lemmas.List.Sorted.{IsPartitionPoint-from_clause}
use Rattle.rh_journal.proofs.ShownPlaces.{Pair, below_parted, parts_there}
use Rattle.rh_journal.proofs.outcome.first_not_below.Goals as goal

pub returns-clause-point : goal.returns-clause-point
returns-clause-point c = IsPartitionPoint-from_clause (λ (p : Pair). nat_lt p.0 c.args.promise) _ _ c.partition_point.ensures.partitioned (below_parted c.args.pairs.now c.args.promise c.requires) (λ a r q k. search rules)

pub returns-then-stands_by_number-clause-point : goal.returns-then-stands_by_number-clause-point
returns-then-stands_by_number-clause-point c = parts_there c.args.promise c.args.promise c.args.pairs.now c.requires (c.stands_by_number.ensures c.if-stands_by_number.true)
