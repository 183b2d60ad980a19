use Rattle.rh_top.proofs.SomeAnswer.{some_answer, absent_program, absent_faults}
use Rattle.rh_top.proofs.laws.told_files_give_an_answer.Goals as goal

pub returns-clause-told : goal.returns-clause-told
returns-clause-told c = some_answer

pub returns-clause-no_program : goal.returns-clause-no_program
returns-clause-no_program c = absent_program

pub returns-clause-no_faults : goal.returns-clause-no_faults
returns-clause-no_faults c = absent_faults
