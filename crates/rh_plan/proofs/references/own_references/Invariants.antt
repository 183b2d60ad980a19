use Rattle.std.proofs.Common.{◌≡◌, map, take}
use Rattle.rh_plan.proofs.OwnCounts.{own_count}
use Rattle.rh_plan.proofs.references.own_references.Given as goal

abbrev pub invariant-loop-promise : goal.invariant-loop-promise
invariant-loop-promise l = l.counts.items ≡ map own_count (take l.promise-index l.promises)
