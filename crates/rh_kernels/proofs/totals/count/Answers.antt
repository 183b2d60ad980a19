use Rattle.std.proofs.Common.{arith}
use Rattle.std.proofs.lemmas.Grind.{common_steps}
use Rattle.rh_kernels.proofs.totals.count.Goals as goal

pub loop-word-preserved : goal.loop-word-preserved
loop-word-preserved = grind (arith, common_steps)
