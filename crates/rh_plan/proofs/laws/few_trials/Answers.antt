use Rattle.rh_plan.proofs.Tried.{few_trials}
use Rattle.rh_plan.proofs.laws.few_trials.Goals as goal

pub returns : goal.returns
returns c = few_trials
