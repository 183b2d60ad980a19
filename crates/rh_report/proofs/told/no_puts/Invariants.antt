use Rattle.std.proofs.Common.{◌≡◌, None, replicate}
use Rattle.rh_report.proofs.told.no_puts.Given as goal

abbrev pub invariant-loop : goal.invariant-loop
invariant-loop l = l.puts.items ≡ replicate l.counter None
