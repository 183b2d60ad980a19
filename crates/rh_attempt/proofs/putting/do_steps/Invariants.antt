use Rattle.std.proofs.Common.{◌++◌, drop}
use Rattle.rh_rules.specs.Bodies.{drops_of}
use Rattle.rh_plan.specs.Buffers.{puts_of}
use Rattle.rh_attempt.proofs.Puts.{IsFilling}
use Rattle.rh_attempt.proofs.putting.do_steps.Given as goal

abbrev pub invariant-loop-at : goal.invariant-loop-at
invariant-loop-at l = IsFilling l.locals.items l.buffer (drop l.at l.steps) (l.initial.buffer.puts ++ puts_of l.initial.locals.items l.steps) (l.initial.buffer.drops ++ drops_of l.steps)
