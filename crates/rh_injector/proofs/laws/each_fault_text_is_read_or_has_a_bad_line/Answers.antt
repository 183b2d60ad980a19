use Rattle.rh_injector.proofs.ReadOrBad.{decided}
use Rattle.rh_injector.proofs.laws.each_fault_text_is_read_or_has_a_bad_line.Goals as goal

pub returns : goal.returns
returns c = decided
