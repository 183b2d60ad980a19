use Rattle.std.proofs.Common.{◌≡◌, ◌-◌, ◌≤◌, max}
use Rattle.std.specs.List.{range_with_len}
use Rattle.rh_tables.proofs.node.numbers_between.Given as goal

abbrev pub invariant-loop-number : goal.invariant-loop-number
invariant-loop-number l = record {
  so_far : l.numbers ≡ range_with_len l.first (l.number - l.first);
  rising : l.first ≤ l.number;
  within : l.number ≤ max l.first l.last;
}
