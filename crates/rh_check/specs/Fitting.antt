-- When a check can be made.
use Rattle.std.specs.Prelude.{ℕ, ◌≡◌, ◌≤◌, ◌<◌, List, ⊤, take, length, slice_get, IsSomeAnd}
use Rattle.std.specs.List.{AllByRecursion}
use Rattle.rh_words.specs.declared.limits.TheConstants.{MAX_SHIFT, MAX_TERMS}
use Rattle.rh_check.specs.declared.spec.Spec.{Spec}
use Rattle.rh_check.specs.declared.spec.Spec.TheVariants.{Range, Total, Linear, Conserve, Conserve2, Product, User}
use Rattle.rh_check.specs.declared.spec.UserSpec.{UserSpec}
use Rattle.rh_sparse.specs.Matrix.{MatrixData}
use Rattle.rh_check.specs.Matrices.{FitsMatrix}
use Rattle.rh_stencil.specs.Grids.{FitsGrid}
use Rattle.rh_check.specs.Checks.{words_at}

-- the awaited words at l, m and r are there, none is empty, and the words that are put are as many as those at m
pub record FitsLine (inputs : List (List ℕ)) (words : List ℕ) (l m r s : ℕ) : Type 0 where
  pub there : (l < length inputs) × (m < length inputs) × (r < length inputs)
  pub left : 0 < length (words_at inputs l)
  pub line : 0 < length (words_at inputs m)
  pub right : 0 < length (words_at inputs r)
  pub same : length words ≡ length (words_at inputs m)
  pub shift : s ≤ MAX_SHIFT

-- the awaited words at m are a grid with the four halos, and the words that are put are as many
pub record FitsHalos (inputs : List (List ℕ)) (words : List ℕ) (north south west east m cols s : ℕ) : Type 0 where
  pub there : (north < length inputs) × (south < length inputs) × (west < length inputs) × (east < length inputs)
  pub grid_there : m < length inputs
  pub grid : FitsGrid (words_at inputs north) (words_at inputs south) (words_at inputs west) (words_at inputs east) (words_at inputs m) cols
  pub same : length words ≡ length (words_at inputs m)
  pub shift : s ≤ MAX_SHIFT

-- The inputs that the check reads are there, and so are the matrix and the handed-in check that it names. The arguments are the matrices,
-- the awaited words, the words that are put, and what the handed-in checks ask.
abbrev pub FitsInputs : List MatrixData → List (List ℕ) → List ℕ → List UserSpec → Spec → Type 0
FitsInputs matrices inputs words users (Range lo hi) = ⊤
FitsInputs matrices inputs words users (Total sum) = ⊤
FitsInputs matrices inputs words users (Linear base terms count) = (count ≤ MAX_TERMS) × AllByRecursion (λ t. t.input < length inputs) (take count terms)
FitsInputs matrices inputs words users (Conserve l m r k s) = FitsLine inputs words l m r s
FitsInputs matrices inputs words users (Conserve2 north south west east m cols k s) = FitsHalos inputs words north south west east m cols s
FitsInputs matrices inputs words users (Product matrix x) = IsSomeAnd (slice_get matrices matrix) (λ a. FitsMatrix a inputs x words)
FitsInputs matrices inputs words users (User at) = at < length users
