use Rattle.std.proofs.Common.{arith}
use Rattle.std.proofs.lemmas.Grind.{elements}
use Rattle.rh_check.proofs.passing.keeps_grid.Goals as goal

pub conserves2-requires-clause-fits : goal.conserves2-requires-clause-fits
conserves2-requires-clause-fits = grind (arith, elements)

pub conserves2-requires-clause-same : goal.conserves2-requires-clause-same
conserves2-requires-clause-same = grind (arith, elements)

pub returns : goal.returns
returns = grind (arith, elements)
