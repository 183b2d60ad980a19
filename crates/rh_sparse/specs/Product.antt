-- The product of a matrix and a list of words, of which the lower 32 bits count.
use Rattle.std.specs.Prelude.{ℕ, ◌*◌, ◌%◌, ◌^◌, List, map, slice_index}
use Rattle.std.specs.List.{sum_by}
use Rattle.rh_sparse.specs.declared.matrix.Cell.{Cell}
use Rattle.rh_sparse.specs.Matrix.{MatrixData}

-- the lower 32 bits of the word at a place
abbrev pub low_word : List ℕ → ℕ → ℕ
low_word x j = slice_index x j % 2 ^ 32

-- a word of the product: the sum of the row's values, each times the word of its column
unfoldable pub row_product : List ℕ → List Cell → ℕ
row_product x row = sum_by (λ cell. cell.value * low_word x cell.col) row

-- the product: a word for each row
abbrev pub product_value : MatrixData → List ℕ → List ℕ
product_value a x = map (row_product x) a.rows
