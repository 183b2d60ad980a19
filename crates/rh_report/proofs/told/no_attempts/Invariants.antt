use Rattle.std.proofs.Common.{◌≡◌, [], replicate}
use Rattle.rh_report.proofs.told.no_attempts.Given as goal

abbrev pub invariant-loop : goal.invariant-loop
invariant-loop l = l.attempts.items ≡ replicate l.counter []
