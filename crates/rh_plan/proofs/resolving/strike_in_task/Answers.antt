use Rattle.std.proofs.Common.{rules}
use Rattle.rh_plan.proofs.resolving.strike_in_task.Goals as goal

pub returns-clause-unrefused : goal.returns-clause-unrefused
returns-clause-unrefused = search rules

pub returns-then-fault-eq0-clause-refused : goal.returns-then-fault-eq0-clause-refused
returns-then-fault-eq0-clause-refused = search rules
