use Rattle.rh_report.proofs.FaultFree.{reports_are_fault_free}
use Rattle.rh_report.proofs.laws.reports_are_fault_free.Goals as goal

pub returns : goal.returns
returns c = reports_are_fault_free c.budgets_are_kept.ensures
