use Rattle.std.proofs.Common.{arith}
use Rattle.std.proofs.lemmas.Grind.{elements}
use Rattle.rh_check.proofs.passing.keeps_line.Goals as goal

pub conserves1-requires-clause-left : goal.conserves1-requires-clause-left
conserves1-requires-clause-left = grind (arith, elements)

pub conserves1-requires-clause-some : goal.conserves1-requires-clause-some
conserves1-requires-clause-some = grind (arith, elements)

pub conserves1-requires-clause-right : goal.conserves1-requires-clause-right
conserves1-requires-clause-right = grind (arith, elements)

pub conserves1-requires-clause-same : goal.conserves1-requires-clause-same
conserves1-requires-clause-same = grind (arith, elements)

pub returns : goal.returns
returns = grind (arith, elements)
