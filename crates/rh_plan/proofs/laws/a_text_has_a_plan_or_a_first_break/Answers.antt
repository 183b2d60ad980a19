use Rattle.rh_plan.proofs.PlannedTexts as plans
use Rattle.rh_plan.proofs.laws.a_text_has_a_plan_or_a_first_break.Goals as goal

pub returns-clause-either : goal.returns-clause-either
returns-clause-either c = plans.planned_or_broken

pub returns-clause-never_both : goal.returns-clause-never_both
returns-clause-never_both c = plans.planned_unbroken

pub returns-clause-one_plan : goal.returns-clause-one_plan
returns-clause-one_plan c = plans.planned_once
