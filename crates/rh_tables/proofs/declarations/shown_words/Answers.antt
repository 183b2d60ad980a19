use Rattle.std.proofs.Common.{arith}
use Rattle.std.proofs.lemmas.Grind.{common_steps}
use Rattle.rh_tables.proofs.declarations.shown_words.Goals as goal

pub returns-then-scope : goal.returns-then-scope
returns-then-scope = grind (arith, common_steps)
