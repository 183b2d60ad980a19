use Rattle.std.proofs.Common.{rules}
use Rattle.rh_report.proofs.trials.Trials.push.Goals as goal

pub returns-clause-ok : goal.returns-clause-ok
returns-clause-ok = search rules
