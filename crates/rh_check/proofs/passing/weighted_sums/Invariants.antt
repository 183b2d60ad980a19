use Rattle.std.proofs.Common.{◌≡◌, ◌%◌, ◌^◌, take}
use Rattle.rh_check.specs.Checks.{weighted_sums}
use Rattle.rh_check.proofs.passing.weighted_sums.Given as goal

abbrev pub invariant-loop-term : goal.invariant-loop-term
invariant-loop-term g l = l.sums ≡ weighted_sums (g.I.Inputs.lists l.inputs) (take l.term-index l.terms) % 2 ^ 64
