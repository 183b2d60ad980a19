use Rattle.std.proofs.Common.{rules}
use Rattle.rh_report.specs.PromiseLines.{promise_line}
use Rattle.rh_report.proofs.promises.print_promise.Goals as goal

pub returns-in_ok-print_declared : goal.returns-in_ok-print_declared
unfolding promise_line
returns-in_ok-print_declared = search rules
