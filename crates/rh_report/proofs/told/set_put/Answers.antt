use Rattle.std.proofs.Common.{rules}
use Rattle.rh_report.proofs.told.set_put.Goals as goal

pub returns-then-at-len : goal.returns-then-at-len
returns-then-at-len = search rules
