use Rattle.std.proofs.Common.{arith}
use Rattle.std.proofs.lemmas.Grind.{common_steps}
use Rattle.rh_stencil.proofs.grid.step2.Goals as goal

pub returns : goal.returns
returns = grind (arith, common_steps)
