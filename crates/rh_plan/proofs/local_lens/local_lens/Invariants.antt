use Rattle.std.proofs.Common.{drop}
use Rattle.rh_rules.specs.Bodies.{shapes_of}
use Rattle.rh_rules.specs.Lawful.{promise_lens, local_lens}
use Rattle.rh_plan.proofs.LocalLens.{IsMeasuring}
use Rattle.rh_plan.proofs.local_lens.local_lens.Given as goal

abbrev pub invariant-loop-step : goal.invariant-loop-step
invariant-loop-step l = IsMeasuring (shapes_of l.matrices) (promise_lens l.promises) l.lens.items (drop l.step-index l.node.body) (local_lens (shapes_of l.matrices) l.promises l.node)
