use Rattle.rh_task_text.proofs.LawfulTexts.{Reads-lawful}
use Rattle.rh_task_text.proofs.laws.read_texts_are_lawful.Goals as goal

pub returns : goal.returns
returns c = Reads-lawful
