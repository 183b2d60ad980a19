use Rattle.std.proofs.Common.{rules}
use Rattle.rh_plan.specs.Judging.{are_same}
use Rattle.rh_attempt.proofs.buffer.is_same.Goals as goal

pub returns-then-eq : goal.returns-then-eq
unfolding are_same
returns-then-eq = search rules

pub returns-else-eq : goal.returns-else-eq
unfolding are_same
returns-else-eq = search rules
