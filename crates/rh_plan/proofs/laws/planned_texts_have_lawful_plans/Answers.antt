use Rattle.rh_plan.proofs.LawfulPlans.{planned_plan_lawful}
use Rattle.rh_plan.proofs.laws.planned_texts_have_lawful_plans.Goals as goal

pub returns : goal.returns
returns c = planned_plan_lawful
