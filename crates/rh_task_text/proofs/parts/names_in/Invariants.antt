use Rattle.std.proofs.Common.{◌≡◌, ◌++◌, length}
use Rattle.rh_task_text.specs.ValueColumns.{names_in}
use Rattle.rh_task_text.proofs.parts.names_in.Given as goal

abbrev pub invariant-loop-value : goal.invariant-loop-value
invariant-loop-value l = l.found ++ names_in l.left ≡ names_in l.fn.values

abbrev pub decreases-loop-value : goal.decreases-loop-value
decreases-loop-value l = length l.left
