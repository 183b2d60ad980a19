use Rattle.rh_injector.proofs.OneFaultReading.{Reads-same}
use Rattle.rh_injector.proofs.laws.a_fault_text_is_read_in_one_way.Goals as goal

pub returns : goal.returns
returns c = Reads-same
