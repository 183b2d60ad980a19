use Rattle.std.proofs.Common.{◌≡◌, take}
use Rattle.rh_rules.specs.Bodies.{lens_at}
use Rattle.rh_rules.specs.Lawful.{promise_lens}
use Rattle.rh_plan.proofs.local_lens.await_lens.Given as goal

abbrev pub invariant-loop-promise : goal.invariant-loop-promise
invariant-loop-promise l = l.lens.items ≡ lens_at (promise_lens l.promises) (take l.promise-index l.awaits)
