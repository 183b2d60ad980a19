use Rattle.std.proofs.Common.{rules, append_assoc}
use Rattle.rh_report.proofs.promises.print_shown.Goals as goal

pub returns : goal.returns
returns = search (append_assoc, rules)
