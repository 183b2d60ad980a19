use Rattle.std.proofs.Common.{◌≡◌, take}
use Rattle.rh_tables.proofs.handed.Handed.of.Given as goal

abbrev pub invariant-loop-at : goal.invariant-loop-at
invariant-loop-at g l = record {
  names : l.names.items ≡ take l.at (g.C.Checks.names l.checks);
  specs : l.specs.items ≡ take l.at (g.C.Checks.specs l.checks);
}
