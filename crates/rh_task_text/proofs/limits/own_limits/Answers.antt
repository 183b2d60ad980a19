use Rattle.std.proofs.Common.{rules}
use Rattle.rh_task_text.proofs.limits.own_limits.Goals as goal

pub returns-in-Task : goal.returns-in-Task
returns-in-Task = search rules
