use Rattle.rh_injector.proofs.OneFaultReading.{FirstBad-same}
use Rattle.rh_injector.proofs.laws.a_fault_text_has_one_first_bad_line.Goals as goal

pub returns : goal.returns
returns c = FirstBad-same
