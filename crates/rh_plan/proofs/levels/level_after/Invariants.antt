use Rattle.std.proofs.Common.{◌≡◌, ◌≤◌, ◌+◌, length, map, take}
use Rattle.rh_plan.specs.Derived.{level_after}
use Rattle.rh_plan.proofs.levels.level_after.Given as goal

abbrev pub invariant-loop-number : goal.invariant-loop-number
invariant-loop-number l = record {
  value : l.greatest ≡ level_after (map (λ e. e.from) l.edges) l.levels (take l.number-index l.numbers);
  low : l.greatest ≤ length l.levels + 1;
}
