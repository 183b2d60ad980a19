use Rattle.rh_task_text.proofs.StatementLists.{join_states}
use Rattle.rh_task_text.proofs.statements.join_statement.Goals as goal

pub returns : goal.returns
returns c = rw c.set.ensures (join_states c.args.values.now _ _ _ c.requires c.x-item.is c.name_of.ensures c.in_ok-names_in.ensures)
