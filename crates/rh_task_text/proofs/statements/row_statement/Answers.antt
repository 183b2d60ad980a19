use Rattle.rh_task_text.proofs.StatementLists.{row_states}
use Rattle.rh_task_text.proofs.statements.row_statement.Goals as goal

pub returns : goal.returns
returns c = rw c.set.ensures (row_states c.args.values.now _ _ c.requires c.in_ok-columns_in.ensures c.in_ok-values_in.ensures)
