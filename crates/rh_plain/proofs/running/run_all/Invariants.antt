use Rattle.rh_plain.specs.Runs.{IsSoFar}
use Rattle.rh_plain.proofs.running.run_all.Given as goal

abbrev pub invariant-loop-node : goal.invariant-loop-node
invariant-loop-node g l = IsSoFar l.plan l.faults l.node l.progress
