use Rattle.std.proofs.Common.{◌≡◌, ◌≤◌}
use Rattle.std.specs.List.{count_by, range_with_len}
use Rattle.rh_report.specs.Totals.{is_put_at}
use Rattle.rh_report.proofs.totals.put_count.Given as goal

abbrev pub invariant-loop-promise : goal.invariant-loop-promise
invariant-loop-promise l = record {
  counted : l.puts ≡ count_by (is_put_at l.plan l.told) (range_with_len 0 l.promise);
  few : l.puts ≤ l.promise;
}
