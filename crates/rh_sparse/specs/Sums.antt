-- Sums over places, which count from 0.
use Rattle.std.specs.Prelude.{ℕ, ◌+◌, ◌*◌, List, length, slice_index}
use Rattle.rh_words.specs.Sums.{sum_below}

-- the sum of the words, each times its place plus one
abbrev pub weighted_sum : List ℕ → ℕ
weighted_sum ys = sum_below (length ys) (λ i. (i + 1) * slice_index ys i)
