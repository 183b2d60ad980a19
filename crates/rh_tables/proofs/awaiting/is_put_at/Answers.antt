use Rattle.std.proofs.Common.{arith}
use Rattle.std.proofs.lemmas.Grind.{elements}
use Rattle.rh_tables.proofs.awaiting.is_put_at.Goals as goal

pub returns-in-Some : goal.returns-in-Some
returns-in-Some = grind (arith, elements)

pub returns-in-None : goal.returns-in-None
returns-in-None = grind (arith, elements)
