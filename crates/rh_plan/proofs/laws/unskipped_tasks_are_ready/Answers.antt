use Rattle.rh_plan.proofs.Values.{unskipped_tasks_are_ready}
use Rattle.rh_plan.proofs.laws.unskipped_tasks_are_ready.Goals as goal

pub returns : goal.returns
returns c = unskipped_tasks_are_ready
