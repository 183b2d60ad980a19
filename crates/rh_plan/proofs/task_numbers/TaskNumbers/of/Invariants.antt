use Rattle.std.proofs.Common.{take}
use Rattle.rh_plan.specs.FaultTables.{AreTasksNumbered}
use Rattle.rh_plan.proofs.task_numbers.TaskNumbers.of.Given as goal

abbrev pub invariant-loop-at : goal.invariant-loop-at
invariant-loop-at l = AreTasksNumbered l.known (take l.at l.nodes)
