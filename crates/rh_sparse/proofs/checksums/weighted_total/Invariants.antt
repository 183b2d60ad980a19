use Rattle.std.proofs.Common.{◌≡◌, ◌+◌, ◌*◌, ◌^◌, ◌≤◌, slice_index}
use Rattle.rh_words.specs.Sums.{sum_below}
use Rattle.rh_sparse.proofs.checksums.weighted_total.Given as goal

abbrev pub invariant-loop-at : goal.invariant-loop-at
invariant-loop-at l = (l.sum ≡ sum_below l.at (λ i. (i + 1) * slice_index l.words i)) × (l.sum ≤ l.at * 2 ^ 76)
