use Rattle.std.proofs.Common.{arith}
use Rattle.std.proofs.lemmas.Grind.{common_steps}
use Rattle.rh_tables.proofs.line_use.is_owned.Goals as goal

pub returns-else-promise : goal.returns-else-promise
returns-else-promise = grind (arith, common_steps)
