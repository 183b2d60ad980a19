use Rattle.rh_top.proofs.FaultFreeCalls.{reports_of_calls}
use Rattle.rh_top.proofs.laws.reports_of_calls_are_fault_free.Goals as goal

pub returns : goal.returns
returns c = reports_of_calls c.read_texts_are_lawful.ensures c.planned_texts_have_lawful_plans.ensures c.reports_are_fault_free.ensures
