use Rattle.rh_task_text.proofs.StatementLists.{linear_states}
use Rattle.rh_task_text.proofs.statements.linear_statement.Goals as goal

pub returns : goal.returns
returns c = rw c.set.ensures (linear_states c.args.values.now _ _ _ _ _ _ c.requires c.promise-item.is c.name_of.ensures c.base-item.is c.number_of.ensures c.in_ok-names_in.ensures c.in_ok-numbers_in.ensures)
