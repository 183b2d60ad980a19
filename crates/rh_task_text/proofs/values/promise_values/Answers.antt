use Rattle.std.proofs.Common.{rules}
use Rattle.rh_task_text.proofs.values.promise_values.Goals as goal

pub returns : goal.returns
returns = search rules
