use Rattle.rh_plan.proofs.Sums.{summed_tasks_replay_within}
use Rattle.rh_plan.proofs.laws.summed_tasks_replay_within.Goals as goal

pub returns : goal.returns
returns c = summed_tasks_replay_within
