use Rattle.std.proofs.Common.{◌≡◌, ◌++◌, drop}
use Rattle.rh_plan.specs.Buffers.{copies_from}
use Rattle.rh_attempt.proofs.making.awaited_locals.Given as goal

abbrev pub invariant-loop-at : goal.invariant-loop-at
invariant-loop-at g l = l.locals.items ++ copies_from l.strikes l.at (drop l.at (g.I.Inputs.lists l.inputs)) ≡ copies_from l.strikes 0 (g.I.Inputs.lists l.inputs)
