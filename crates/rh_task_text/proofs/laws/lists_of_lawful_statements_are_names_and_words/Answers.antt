use Rattle.rh_task_text.proofs.SayableLists.{names_sayable, awaits_sayable, words_sayable}
use Rattle.rh_task_text.proofs.laws.lists_of_lawful_statements_are_names_and_words.Goals as goal

pub returns-clause-names : goal.returns-clause-names
returns-clause-names c = names_sayable

pub returns-clause-awaits : goal.returns-clause-awaits
returns-clause-awaits c = awaits_sayable

pub returns-clause-words : goal.returns-clause-words
returns-clause-words c = words_sayable
