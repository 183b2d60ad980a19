use Rattle.std.proofs.Common.{tests, rules}
use Rattle.rh_attempt.proofs.faulting.apply.Goals as goal

pub returns-then-at-as_slice : goal.returns-then-at-as_slice
returns-then-at-as_slice = search (tests, rules)
