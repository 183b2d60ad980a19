use Rattle.rh_task_text.proofs.StatementLists.{replay_states}
use Rattle.rh_task_text.proofs.statements.replay_statement.Goals as goal

pub returns : goal.returns
returns c = rw c.set.ensures (replay_states c.args.values.now _ _ _ _ _ c.requires c.name-item.is c.name_of.ensures c.limit-item.is c.number_of.ensures c.in_ok-names_in.ensures)
