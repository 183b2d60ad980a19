use Rattle.std.proofs.Common.{◌≡◌, ◌++◌, take, map}
use Rattle.rh_plan.specs.Plans.{await_edge}
use Rattle.rh_plan.proofs.edges.push_awaits.Given as goal

abbrev pub invariant-loop-promise : goal.invariant-loop-promise
invariant-loop-promise l = l.edges.items ≡ l.initial.edges.items ++ map (await_edge l.promises l.to) (take l.promise-index l.awaits)
