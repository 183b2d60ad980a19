use Rattle.std.proofs.Common.{◌≤◌, not}
use Rattle.std.specs.List.{position_or_len}
use Rattle.rh_schemes.specs.Checking.{planned_passes}
use Rattle.rh_schemes.proofs.checking.first_failing.Given as goal

abbrev pub invariant-loop-which : goal.invariant-loop-which
invariant-loop-which g l = l.which ≤ position_or_len (λ c. not (planned_passes l.matrices (g.C.Checks.specs l.handed) (g.I.Inputs.lists l.inputs) l.buffer c)) l.checks
