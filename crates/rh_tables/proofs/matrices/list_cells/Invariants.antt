use Rattle.std.proofs.Common.{◌≡◌, ◌++◌, take}
use Rattle.rh_rules.specs.Facets.{cells_of}
use Rattle.rh_tables.proofs.matrices.list_cells.Given as goal

abbrev pub invariant-loop-at : goal.invariant-loop-at
invariant-loop-at l = l.cells.items ≡ l.initial.cells.items ++ cells_of (take l.at l.columns) (take l.at l.values)
