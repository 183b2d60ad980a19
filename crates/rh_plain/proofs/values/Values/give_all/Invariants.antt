use Rattle.rh_plan.specs.Buffers.{words_put}
use Rattle.rh_plain.specs.Values.{AreGiven}
use Rattle.rh_plain.proofs.values.Values.give_all.Given as goal

abbrev pub invariant-loop-promise : goal.invariant-loop-promise
invariant-loop-promise l = AreGiven (λ q. words_put q l.yielded) l.initial.self l.self
