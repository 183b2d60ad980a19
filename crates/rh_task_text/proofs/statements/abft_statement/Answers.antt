use Rattle.rh_task_text.proofs.StatementLists.{abft_states}
use Rattle.rh_task_text.proofs.statements.abft_statement.Goals as goal

pub returns : goal.returns
returns c = rw c.set.ensures (abft_states c.args.values.now _ _ _ c.requires c.name-item.is c.name_of.ensures c.in_ok-names_in.ensures)
