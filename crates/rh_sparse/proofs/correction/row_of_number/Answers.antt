use Rattle.std.proofs.Common.{rules}
use Rattle.rh_sparse.proofs.correction.row_of_number.Goals as goal

pub returns : goal.returns
returns = search rules
