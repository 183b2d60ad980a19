use Rattle.std.proofs.Common.{arith}
use Rattle.std.proofs.lemmas.Grind.{elements, common_steps}
use Rattle.rh_top.proofs.command.read_command.Goals as goal

pub returns-in-len4 : goal.returns-in-len4
returns-in-len4 = grind (arith, elements, common_steps)
