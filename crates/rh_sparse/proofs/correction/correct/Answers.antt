use Rattle.std.proofs.Common.{rules}
use Rattle.rh_sparse.proofs.correction.correct.Goals as goal

pub returns-in-Some-clause-answer : goal.returns-in-Some-clause-answer
returns-in-Some-clause-answer = search rules
