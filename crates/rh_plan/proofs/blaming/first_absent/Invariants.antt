use Rattle.std.proofs.Common.{◌≡◌, length}
use Rattle.rh_plan.specs.Results.{first_absent}
use Rattle.rh_plan.proofs.blaming.first_absent.Given as goal

abbrev pub invariant-loop-promises : goal.invariant-loop-promises
invariant-loop-promises l = first_absent l.promises l.flags ≡ first_absent l.awaits l.present

abbrev pub decreases-loop-promises : goal.decreases-loop-promises
decreases-loop-promises l = length l.promises
