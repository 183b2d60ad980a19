use Rattle.rh_plan.proofs.SaidPlans.{plans_say_their_texts}
use Rattle.rh_plan.proofs.laws.plans_say_their_texts.Goals as goal

pub returns : goal.returns
returns c = plans_say_their_texts
