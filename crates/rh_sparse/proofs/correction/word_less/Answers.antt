use Rattle.std.proofs.Common.{rules}
use Rattle.rh_sparse.proofs.correction.word_less.Goals as goal

pub returns : goal.returns
returns = search rules
