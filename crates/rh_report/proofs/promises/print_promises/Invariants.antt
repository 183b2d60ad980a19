use Rattle.std.proofs.Common.{◌≡◌, ◌++◌}
use Rattle.std.specs.List.{flat_map, range_with_len}
use Rattle.rh_report.specs.PromiseLines.{promise_line}
use Rattle.rh_report.proofs.promises.print_promises.Given as goal

abbrev pub invariant-loop-promise : goal.invariant-loop-promise
invariant-loop-promise l = l.into ≡ l.fn.into ++ flat_map (promise_line l.plan l.told l.shown) (range_with_len 0 l.promise)
