use Rattle.std.proofs.Common.{◌≡◌, ◌++◌, drop}
use Rattle.rh_plan.specs.Plans.{edges_from}
use Rattle.rh_plan.proofs.edges.edges_of.Given as goal

abbrev pub invariant-loop-to : goal.invariant-loop-to
invariant-loop-to l = l.edges.items ++ edges_from l.promises l.to (drop l.to l.nodes) ≡ edges_from l.promises 0 l.nodes
