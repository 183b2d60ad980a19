use Rattle.rh_report.specs.PromiseLines.{promise_line}
use Rattle.rh_report.proofs.Lines.{lines_more}
use Rattle.rh_report.proofs.promises.print_promises.Goals as goal

pub loop-promise-preserved : goal.loop-promise-preserved
loop-promise-preserved c = lines_more (promise_line c.args.plan.now c.args.told.now c.args.shown.now) c.loop-promise.promise c.args.into.now c.loop-promise.into c.print_promise.new.into c.loop-promise.invariant c.in_ok-print_promise.ensures
