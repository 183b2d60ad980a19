use Rattle.std.proofs.Common.{arith}
use Rattle.std.proofs.lemmas.Grind.{common_steps}
use Rattle.rh_plain.proofs.listing.append_valued.Goals as goal

pub loop-promise-preserved : goal.loop-promise-preserved
loop-promise-preserved = grind (arith, common_steps)
