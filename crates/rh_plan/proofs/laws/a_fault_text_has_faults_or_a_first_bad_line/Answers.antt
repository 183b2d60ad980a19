use Rattle.rh_plan.proofs.OneResolution.{faults_or_bad, never_both, one_list, one_refusal}
use Rattle.rh_plan.proofs.ResolvedFaults.{faults_of_plan}
use Rattle.rh_plan.proofs.laws.a_fault_text_has_faults_or_a_first_bad_line.Goals as goal

pub returns-clause-either : goal.returns-clause-either
returns-clause-either c = faults_or_bad

pub returns-clause-never_both : goal.returns-clause-never_both
returns-clause-never_both c = never_both

pub returns-clause-one_list : goal.returns-clause-one_list
returns-clause-one_list c = one_list

pub returns-clause-one_refusal : goal.returns-clause-one_refusal
returns-clause-one_refusal c = one_refusal

pub returns-clause-plans : goal.returns-clause-plans
returns-clause-plans c = faults_of_plan
