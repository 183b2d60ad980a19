use Rattle.rh_task_text.proofs.PrintedTexts.{printed_reads}
use Rattle.rh_task_text.proofs.laws.printed_texts_read_back.Goals as goal

pub returns : goal.returns
returns c = printed_reads
