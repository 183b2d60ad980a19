use Rattle.std.proofs.Common.{arith}
use Rattle.std.proofs.lemmas.Grind.{common_steps}
use Rattle.rh_plan.proofs.levels.level_after.Goals as goal

pub loop-number-preserved : goal.loop-number-preserved
loop-number-preserved = grind (arith, common_steps)
