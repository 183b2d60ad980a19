-- All rows of a matrix in one list of cells, with the list of their ends.
use Rattle.std.specs.Prelude.{ℕ, ◌≡◌, ◌≤◌, List, [], ◌∷◌, length, slice_range}
use Rattle.rh_sparse.specs.declared.matrix.Cell.{Cell}
use Rattle.rh_sparse.specs.Matrix.{matrix_data, IsMatrix}

-- The rows that have these ends. The first begins at `start`, each other one at the end of the one before it.
abbrev pub rows_from : List Cell → ℕ → List ℕ → List (List Cell)
rows_from cells start [] = []
rows_from cells start (end ∷ ends) = slice_range cells start end ∷ rows_from cells end ends

-- The ends never fall from `start` on, and the last of them is `stop`.
abbrev pub LeadTo : ℕ → List ℕ → ℕ → Type 0
LeadTo start [] stop = start ≡ stop
LeadTo start (end ∷ ends) stop = (start ≤ end) × LeadTo end ends stop

pub record IsLaidOut (cols : ℕ) (cells : List Cell) (ends : List ℕ) : Type 0 where
  pub lead : LeadTo 0 ends (length cells)
  pub lawful : IsMatrix (matrix_data cols (rows_from cells 0 ends))
