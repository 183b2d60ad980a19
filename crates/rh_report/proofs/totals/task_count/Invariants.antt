use Rattle.std.proofs.Common.{◌≡◌, ◌≤◌}
use Rattle.std.specs.List.{count_by, range_with_len}
use Rattle.rh_report.specs.Totals.{is_task_at}
use Rattle.rh_report.proofs.totals.task_count.Given as goal

abbrev pub invariant-loop-node : goal.invariant-loop-node
invariant-loop-node l = record {
  counted : l.tasks ≡ count_by (is_task_at l.plan) (range_with_len 0 l.node);
  few : l.tasks ≤ l.node;
}
