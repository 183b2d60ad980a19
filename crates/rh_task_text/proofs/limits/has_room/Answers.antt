use Rattle.std.proofs.Common.{rules}
use Rattle.rh_task_text.proofs.limits.has_room.Goals as goal

pub returns-in-FinishWord : goal.returns-in-FinishWord
returns-in-FinishWord = search rules
