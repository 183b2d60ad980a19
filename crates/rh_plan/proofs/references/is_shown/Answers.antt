use Rattle.std.proofs.Common.{tests, rules}
use Rattle.rh_plan.proofs.references.is_shown.Goals as goal

pub returns : goal.returns
returns = search (tests, rules)
