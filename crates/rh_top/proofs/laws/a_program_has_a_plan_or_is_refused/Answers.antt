use Rattle.rh_top.proofs.ProgramTexts as texts
use Rattle.rh_top.proofs.laws.a_program_has_a_plan_or_is_refused.Goals as goal

pub returns-clause-either : goal.returns-clause-either
returns-clause-either c = texts.program_or_refused

pub returns-clause-never_both : goal.returns-clause-never_both
returns-clause-never_both c = texts.never_both

pub returns-clause-one_plan : goal.returns-clause-one_plan
returns-clause-one_plan c = texts.one_plan

pub returns-clause-one_refusal : goal.returns-clause-one_refusal
returns-clause-one_refusal c = texts.one_refusal
