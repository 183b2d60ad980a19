use Rattle.std.proofs.Common.{arith}
use Rattle.std.proofs.lemmas.Grind.{common_steps}
use Rattle.rh_stencil.proofs.grid.step_grid.Goals as goal

pub step_rows-requires-clause-into : goal.step_rows-requires-clause-into
step_rows-requires-clause-into = grind (arith, common_steps)
