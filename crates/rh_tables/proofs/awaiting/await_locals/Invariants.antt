use Rattle.std.proofs.Common.{◌≡◌, take, map}
use Rattle.rh_rules.specs.Above.{await_local}
use Rattle.rh_tables.proofs.awaiting.await_locals.Given as goal

abbrev pub invariant-loop-at : goal.invariant-loop-at
invariant-loop-at l = l.locals.items ≡ map (await_local l.promises) (take l.at l.names)
