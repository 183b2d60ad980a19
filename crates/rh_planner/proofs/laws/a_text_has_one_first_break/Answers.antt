use Rattle.rh_planner.proofs.Breaking.{one_break}
use Rattle.rh_planner.proofs.laws.a_text_has_one_first_break.Goals as goal

pub returns : goal.returns
returns c = one_break
