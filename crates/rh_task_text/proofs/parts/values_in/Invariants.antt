use Rattle.std.proofs.Common.{◌≡◌, ◌++◌, length}
use Rattle.rh_task_text.specs.ValueColumns.{values_in}
use Rattle.rh_task_text.proofs.parts.values_in.Given as goal

abbrev pub invariant-loop-value : goal.invariant-loop-value
invariant-loop-value l = l.found.items ++ values_in l.left ≡ values_in l.fn.values

abbrev pub decreases-loop-value : goal.decreases-loop-value
decreases-loop-value l = length l.left
