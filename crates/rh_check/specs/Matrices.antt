-- Whether words agree with both checksums of a product of a matrix.
use Rattle.std.specs.Prelude.{ℕ, ◌≡◌, ◌<◌, ◌&&◌, pos, List, [], Bool, false, Option, Some, None, length, slice_index_or}
use Rattle.std.specs.Ordering.{int_eq}
use Rattle.rh_sparse.specs.Matrix.{MatrixData}
use Rattle.rh_sparse.specs.Checksums.{ChecksumData, checksums_of, plain_difference, weighted_difference}

-- both differences of the words are 0, in exact whole numbers
abbrev pub agrees_with : ChecksumData → List ℕ → List ℕ → Bool
agrees_with sums x words = int_eq (plain_difference sums x words) (pos 0) && int_eq (weighted_difference sums x words) (pos 0)

-- the words agree with the checksums of the product of a matrix, where it is held, and x
abbrev pub agrees_if_held : Option MatrixData → List ℕ → List ℕ → Bool
agrees_if_held None x words = false
agrees_if_held (Some a) x words = agrees_with (checksums_of a) x words

-- The input is there and has a word for each column of the matrix, and there is a word for each row.
pub record FitsMatrix (a : MatrixData) (inputs : List (List ℕ)) (x : ℕ) (words : List ℕ) : Type 0 where
  pub there : x < length inputs
  pub columns : length (slice_index_or inputs x []) ≡ a.cols
  pub rows : length words ≡ length a.rows
