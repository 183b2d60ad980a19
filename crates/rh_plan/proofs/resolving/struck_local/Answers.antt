use Rattle.std.proofs.Common.{rules}
use Rattle.rh_plan.proofs.resolving.struck_local.Goals as goal

pub returns-clause-unrefused : goal.returns-clause-unrefused
returns-clause-unrefused = search rules

pub returns-in_default-clause-refused : goal.returns-in_default-clause-refused
returns-in_default-clause-refused = search rules

pub returns-then-branch-clause-refused : goal.returns-then-branch-clause-refused
returns-then-branch-clause-refused = search rules

pub returns-then-fault-from-clause-refused : goal.returns-then-fault-from-clause-refused
returns-then-fault-from-clause-refused = search rules
