use Rattle.std.proofs.Common.{rules}
use Rattle.rh_planner.proofs.planner.end_scope.Goals as goal

pub returns-clause-declared : goal.returns-clause-declared
returns-clause-declared = search rules
