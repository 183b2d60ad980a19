use Rattle.std.proofs.Common.{◌≡◌, take}
use Rattle.rh_plan.specs.Faulted.{faulted}
use Rattle.rh_attempt.proofs.faulting.made_local.Given as goal

abbrev pub invariant-loop-strike : goal.invariant-loop-strike
invariant-loop-strike l = l.altered ≡ faulted (take l.strike-index l.strikes) l.local l.fn.words
