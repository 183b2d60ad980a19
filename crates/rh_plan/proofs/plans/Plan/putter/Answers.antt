use Rattle.std.proofs.Common.{arith}
use Rattle.std.proofs.lemmas.Grind.{elements}
use Rattle.rh_plan.proofs.plans.Plan.putter.Goals as goal

pub returns : goal.returns
returns = grind (arith, elements)
