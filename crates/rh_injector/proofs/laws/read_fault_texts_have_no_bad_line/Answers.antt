use Rattle.rh_injector.proofs.OneFaultReading.{Reads-not_bad}
use Rattle.rh_injector.proofs.laws.read_fault_texts_have_no_bad_line.Goals as goal

pub returns : goal.returns
returns c = Reads-not_bad
