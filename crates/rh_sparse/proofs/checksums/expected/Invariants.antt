use Rattle.std.proofs.Common.{◌≡◌, ◌*◌, ◌^◌, ◌≤◌, slice_index}
use Rattle.rh_sparse.specs.Product.{low_word}
use Rattle.rh_words.specs.Sums.{sum_below}
use Rattle.rh_sparse.proofs.checksums.expected.Given as goal

abbrev pub invariant-loop-at : goal.invariant-loop-at
invariant-loop-at l = (l.sum ≡ sum_below l.at (λ j. slice_index l.sums j * low_word l.x j)) × (l.sum ≤ l.at * 2 ^ 76)
