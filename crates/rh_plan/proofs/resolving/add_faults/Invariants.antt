use Rattle.std.proofs.Common.{◌<◌, ◌^◌}
use Rattle.rh_plan.specs.FaultTables.{AreFaultsBelow}
use Rattle.rh_plan.proofs.resolving.add_faults.Given as goal

abbrev pub invariant-loop-fault : goal.invariant-loop-fault
invariant-loop-fault l = AreFaultsBelow l.plan l.text l.fault-index l.named × (l.fault-index < 2 ^ 32)
