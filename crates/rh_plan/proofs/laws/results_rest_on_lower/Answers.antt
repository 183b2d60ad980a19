use Rattle.rh_plan.proofs.Rows.{result_there}
use Rattle.rh_plan.proofs.laws.results_rest_on_lower.Goals as goal

pub returns : goal.returns
returns c = result_there
