use Rattle.std.proofs.Common.{drop}
use Rattle.rh_plan.specs.Buffers.{locals_from}
use Rattle.rh_attempt.proofs.Locals.{IsMaking}
use Rattle.rh_attempt.proofs.making.make_locals.Given as goal

abbrev pub invariant-loop-step : goal.invariant-loop-step
invariant-loop-step l = IsMaking l.plan l.strikes l.locals.items (drop l.step-index l.steps) (locals_from l.plan l.strikes l.initial.locals.items l.steps)
