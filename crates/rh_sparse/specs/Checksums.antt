-- The two checksums of a matrix, and how far a list of words is from agreeing with them.
use Rattle.std.specs.Prelude.{ℕ, ◌*◌, ◌<◌, ◌≤◌, ◌^◌, ◌≡◌, ◌==◌, if◌then◌else◌, ℤ, pos, ◌-ℤ◌, List, length, map, slice_index, sum, unsigned_abs}
use Rattle.std.specs.List.{All, range_with_len, sum_by}
use Rattle.rh_sparse.specs.declared.matrix.Cell.{Cell}
use Rattle.rh_words.specs.declared.limits.TheConstants.{MAX_MATRIX_SIDE}
use Rattle.rh_sparse.specs.Matrix.{MatrixData}
use Rattle.rh_sparse.specs.Product.{low_word}
use Rattle.rh_words.specs.Sums.{sum_below}
use Rattle.rh_sparse.specs.Sums.{weighted_sum}

-- the entry of a row in a column: the value of its cell there, and 0 where it has none
unfoldable pub entry : ℕ → List Cell → ℕ
entry j row = sum_by (λ cell. if cell.col == j then cell.value else 0) row

-- a column of a matrix, from its first row to its last
abbrev pub column : MatrixData → ℕ → List ℕ
column a j = map (entry j) a.rows

-- For each column a plain sum, and a sum in which each entry is weighted by its row number counted from 1.
pub record ChecksumData : Type 0 where
  pub plain : List ℕ
  pub weighted : List ℕ

abbrev pub checksum_data : List ℕ → List ℕ → ChecksumData
checksum_data plain weighted = record { plain = plain; weighted = weighted }

abbrev pub checksums_of : MatrixData → ChecksumData
checksums_of a = checksum_data (map (λ j. sum (column a j)) (range_with_len 0 a.cols)) (map (λ j. weighted_sum (column a j)) (range_with_len 0 a.cols))

-- what the sum over a product with x must be: the sum of the columns' sums, each times the word of its column
abbrev pub expected_sum : List ℕ → List ℕ → ℕ
expected_sum sums x = sum_below (length x) (λ j. slice_index sums j * low_word x j)

-- how far the sum of the words is above the one that is expected
unfoldable pub plain_difference : ChecksumData → List ℕ → List ℕ → ℤ
plain_difference sums x ys = pos (sum ys) -ℤ pos (expected_sum sums.plain x)

-- the same for the sum of the words, each times its row number counted from 1
unfoldable pub weighted_difference : ChecksumData → List ℕ → List ℕ → ℤ
weighted_difference sums x ys = pos (weighted_sum ys) -ℤ pos (expected_sum sums.weighted x)

-- Both differences are 0.
pub record AgreesWith (sums : ChecksumData) (x ys : List ℕ) : Type 0 where
  pub plain : plain_difference sums x ys ≡ pos 0
  pub weighted : weighted_difference sums x ys ≡ pos 0

-- the sums of one kind: one for each column, and how large they are
pub record AreSums (sums : List ℕ) (limit : ℕ) : Type 0 where
  pub few : length sums ≤ MAX_MATRIX_SIDE
  pub small : All (λ s. s < limit) sums

pub record AreChecksums (sums : ChecksumData) : Type 0 where
  pub paired : length sums.weighted ≡ length sums.plain
  pub plain : AreSums sums.plain (2 ^ 32)
  pub weighted : AreSums sums.weighted (2 ^ 44)

-- the number is far from the ends of 128 bits, as each difference of words and checksums within the limits is
abbrev pub IsSmall : ℤ → Type 0
IsSmall d = unsigned_abs d < 2 ^ 100
