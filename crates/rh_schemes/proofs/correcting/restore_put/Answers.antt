use Rattle.std.proofs.Common.{rules, arith}
use Rattle.std.proofs.lemmas.Grind.{common_steps}
use Rattle.rh_schemes.proofs.correcting.restore_put.Goals as goal

pub set_put-requires : goal.set_put-requires
set_put-requires = grind (arith, common_steps)

pub returns-in-Some-restore_words : goal.returns-in-Some-restore_words
returns-in-Some-restore_words = search rules
