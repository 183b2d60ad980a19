use Rattle.std.proofs.Common.{rules}
use Rattle.rh_task_text.proofs.blocks.rows_fit.Goals as goal

pub returns-in-RowForm : goal.returns-in-RowForm
returns-in-RowForm = search rules
