use Rattle.rh_top.proofs.FaultFiles as files
use Rattle.rh_top.proofs.laws.a_fault_file_has_faults_or_is_refused.Goals as goal

pub returns-clause-either : goal.returns-clause-either
returns-clause-either c = files.faults_or_refused

pub returns-clause-never_both : goal.returns-clause-never_both
returns-clause-never_both c = files.never_both

pub returns-clause-one_list : goal.returns-clause-one_list
returns-clause-one_list c = files.one_list

pub returns-clause-one_refusal : goal.returns-clause-one_refusal
returns-clause-one_refusal c = files.one_refusal
