use Rattle.std.proofs.Common.{rules}
use Rattle.rh_tables.proofs.node.scope_node.Goals as goal

pub returns : goal.returns
returns = search rules
