use Rattle.rh_injector.proofs.Inserting.{one_at_a_place}
use Rattle.rh_injector.proofs.laws.each_place_has_one_fault.Goals as goal

pub returns : goal.returns
returns c = one_at_a_place
