use Rattle.std.proofs.Common.{arith}
use Rattle.std.proofs.lemmas.Grind.{common_steps}
use Rattle.rh_sparse.proofs.checksums.Checksums.of.Goals as goal

pub returns-clause-columns : goal.returns-clause-columns
returns-clause-columns = grind (arith, common_steps)

pub returns-clause-small : goal.returns-clause-small
returns-clause-small = grind (arith, common_steps)
