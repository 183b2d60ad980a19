use Rattle.std.proofs.Common.{◌≡◌, take}
use Rattle.rh_rules.specs.Bodies.{promises_put}
use Rattle.rh_tables.proofs.node.promises_put.Given as goal

abbrev pub invariant-loop-step : goal.invariant-loop-step
invariant-loop-step l = l.numbers ≡ promises_put (take l.step-index l.steps)
