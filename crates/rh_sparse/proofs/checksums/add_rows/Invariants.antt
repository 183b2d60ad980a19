use Rattle.std.proofs.Common.{◌≡◌, ℕ, ◌<◌, map, take, sum, slice_index}
use Rattle.rh_sparse.specs.Checksums.{entry}
use Rattle.rh_sparse.specs.Sums.{weighted_sum}
use Rattle.rh_sparse.proofs.checksums.add_rows.Given as goal

abbrev pub invariant-loop-at : goal.invariant-loop-at
invariant-loop-at l =
    ((j : ℕ) → j < l.a.cols → slice_index l.plain j ≡ sum (map (entry j) (take l.at l.a.rows)))
    × ((j : ℕ) → j < l.a.cols → slice_index l.weighted j ≡ weighted_sum (map (entry j) (take l.at l.a.rows)))
