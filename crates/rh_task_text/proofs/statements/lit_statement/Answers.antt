use Rattle.rh_task_text.proofs.StatementLists.{lit_states}
use Rattle.rh_task_text.proofs.statements.lit_statement.Goals as goal

pub returns : goal.returns
returns c = rw c.set.ensures (lit_states c.args.values.now _ _ _ c.requires c.x-item.is c.name_of.ensures c.in_ok-numbers_in.ensures)
