use Rattle.std.proofs.Common.{◌≡◌, ◌++◌, take, map}
use Rattle.rh_plan.specs.Plans.{order_edge}
use Rattle.rh_plan.proofs.edges.push_orders.Given as goal

abbrev pub invariant-loop-from : goal.invariant-loop-from
invariant-loop-from l = l.edges.items ≡ l.initial.edges.items ++ map (order_edge l.to) (take l.from-index l.sources)
