use Rattle.rh_task_text.proofs.FormsOfStatements.{spelled_form, form_spelled}
use Rattle.rh_task_text.proofs.laws.statements_have_the_forms_of_the_table.Goals as goal

pub returns : goal.returns
returns c = λ words. (spelled_form words, form_spelled words)
