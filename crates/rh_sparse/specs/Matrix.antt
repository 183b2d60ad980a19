-- A sparse matrix as data: how many columns it has, and its rows, each a list of cells.
use Rattle.std.specs.Prelude.{ℕ, ◌<◌, ◌≤◌, List, length}
use Rattle.std.specs.List.{All, AllAdjacentBelow}
use Rattle.rh_sparse.specs.declared.matrix.Cell.{Cell}
use Rattle.rh_words.specs.declared.limits.TheConstants.{MAX_MATRIX_SIDE, MAX_ROW_CELLS, MAX_CELL_VALUE}

pub record MatrixData : Type 0 where
  pub cols : ℕ
  pub rows : List (List Cell)

abbrev pub matrix_data : ℕ → List (List Cell) → MatrixData
matrix_data cols rows = record { cols = cols; rows = rows }

-- a cell of a matrix of so many columns
pub record IsCell (cols : ℕ) (cell : Cell) : Type 0 where
  pub column : cell.col < cols
  pub value : cell.value ≤ MAX_CELL_VALUE

-- each column is above the one before it
abbrev pub Ascends : List Cell → Type 0
Ascends row = AllAdjacentBelow (λ left right. left.col < right.col) row (length row)

-- a row of a matrix of so many columns
pub record IsRow (cols : ℕ) (row : List Cell) : Type 0 where
  pub few : length row ≤ MAX_ROW_CELLS
  pub cells : All (IsCell cols) row
  pub ascending : Ascends row

pub record IsMatrix (a : MatrixData) : Type 0 where
  pub some_columns : 1 ≤ a.cols
  pub few_columns : a.cols ≤ MAX_MATRIX_SIDE
  pub few_rows : length a.rows ≤ MAX_MATRIX_SIDE
  pub lawful_rows : All (IsRow a.cols) a.rows
