use Rattle.std.proofs.Common.{◌==◌, ℕ, ap}
use Rattle.rh_check.specs.Checks.{user_passes}
use Rattle.rh_check.proofs.fast.sums_to_zero.Goals as goal

pub returns : goal.returns
unfolding user_passes
returns c = ap (λ (n : ℕ). n == 0) c.fold_sum.ensures
