use Rattle.std.proofs.Common.{◌≡◌, take, map}
use Rattle.rh_tables.proofs.node.names_of.Given as goal

abbrev pub invariant-loop-local : goal.invariant-loop-local
invariant-loop-local l = l.names ≡ map (λ t. t.name) (take l.local-index l.locals)
