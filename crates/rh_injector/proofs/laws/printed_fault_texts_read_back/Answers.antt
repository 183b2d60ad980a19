use Rattle.rh_injector.proofs.PrintedFaults.{printed_reads}
use Rattle.rh_injector.proofs.laws.printed_fault_texts_read_back.Goals as goal

pub returns : goal.returns
returns c = printed_reads
