use Rattle.std.proofs.Common.{rules}
use Rattle.rh_tables.proofs.line_use.is_dropped.Goals as goal

pub returns : goal.returns
returns = search rules
