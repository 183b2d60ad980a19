use Rattle.std.proofs.Common.{◌≡◌, map, take}
use Rattle.rh_plain.specs.Runs.{counts_put}
use Rattle.rh_plain.proofs.putting.counts_put.Given as goal

abbrev pub invariant-loop-promise : goal.invariant-loop-promise
invariant-loop-promise l = l.made.items ≡ map (λ q. counts_put q l.accepted l.failed l.skipped) (take l.promise-index l.puts)
