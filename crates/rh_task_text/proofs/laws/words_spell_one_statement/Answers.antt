use Rattle.rh_task_text.proofs.StatementsOfForms.{Spells-same}
use Rattle.rh_task_text.proofs.laws.words_spell_one_statement.Goals as goal

pub returns : goal.returns
returns c = Spells-same
