use Rattle.std.proofs.Common.{rules}
use Rattle.rh_planner.proofs.planner.is_bad_scheme.Goals as goal

pub returns-else-limit-eq0 : goal.returns-else-limit-eq0
returns-else-limit-eq0 = search rules
