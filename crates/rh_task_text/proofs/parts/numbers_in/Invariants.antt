use Rattle.std.proofs.Common.{◌≡◌, ◌++◌, length}
use Rattle.rh_task_text.specs.ValueColumns.{numbers_in}
use Rattle.rh_task_text.proofs.parts.numbers_in.Given as goal

abbrev pub invariant-loop-value : goal.invariant-loop-value
invariant-loop-value l = l.found.items ++ numbers_in l.left ≡ numbers_in l.fn.values

abbrev pub decreases-loop-value : goal.decreases-loop-value
decreases-loop-value l = length l.left
