use Rattle.std.proofs.Common.{arith}
use Rattle.std.proofs.lemmas.Grind.{common_steps}
use Rattle.rh_plan.proofs.blaming.first_absent.Goals as goal

pub returns : goal.returns
returns = grind (arith, common_steps)

pub returns-then-not-flag : goal.returns-then-not-flag
returns-then-not-flag = grind (arith, common_steps)
