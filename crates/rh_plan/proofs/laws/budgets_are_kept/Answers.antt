use Rattle.rh_plan.proofs.Budget.{budgets_are_kept}
use Rattle.rh_plan.proofs.laws.budgets_are_kept.Goals as goal

pub returns : goal.returns
returns c = budgets_are_kept
