use Rattle.rh_plan.proofs.Budget.{budgets_are_kept}
use Rattle.rh_plan.proofs.laws.values_are_fault_free.Goals as goal

pub returns : goal.returns
returns c = λ plan lawful faults q v by within. (budgets_are_kept plan lawful faults v within).values q by
