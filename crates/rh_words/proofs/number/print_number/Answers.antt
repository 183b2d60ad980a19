use Rattle.std.proofs.Common.{rules}
use Rattle.rh_words.proofs.number.print_number.Goals as goal

pub returns-clause-ok : goal.returns-clause-ok
returns-clause-ok = search rules
