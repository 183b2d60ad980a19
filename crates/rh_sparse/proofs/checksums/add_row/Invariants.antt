use Rattle.std.proofs.Common.{◌≡◌, ℕ, ◌+◌, ◌*◌, ◌<◌, length, take, slice_index}
use Rattle.rh_sparse.specs.Checksums.{entry}
use Rattle.rh_sparse.proofs.checksums.add_row.Given as goal

abbrev pub invariant-loop-cell : goal.invariant-loop-cell
invariant-loop-cell l = (j : ℕ) → j < length l.initial.sums → slice_index l.sums j ≡ slice_index l.initial.sums j + l.factor * entry j (take l.cell-index l.row)
