use Rattle.std.proofs.Common.{rules}
use Rattle.rh_report.proofs.totals.was_made.Goals as goal

pub returns : goal.returns
returns = search rules
