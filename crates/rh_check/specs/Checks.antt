-- What checks ask of the words that an attempt puts.
use Rattle.std.specs.Prelude.{ℕ, ◌+◌, ◌*◌, ◌%◌, ◌^◌, ◌==◌, ◌&&◌, List, [], Bool, false, nat_le, take, sum, Option, Some, None, slice_get, slice_index_or}
use Rattle.std.specs.List.{list_all, sum_by}
use Rattle.rh_sparse.specs.Matrix.{MatrixData}
use Rattle.rh_stencil.specs.Conserved.{line_sum_after, grid_sum_after}
use Rattle.rh_check.specs.declared.spec.Term.{Term}
use Rattle.rh_check.specs.declared.spec.Spec.{Spec}
use Rattle.rh_check.specs.declared.spec.Spec.TheVariants.{Range, Total, Linear, Conserve, Conserve2, Product, User}
use Rattle.rh_check.specs.declared.spec.UserSpec.{UserSpec}
use Rattle.rh_check.specs.declared.spec.UserSpec.TheVariants as user
use Rattle.rh_check.specs.Matrices.{agrees_if_held}

-- each word is at least lo and at most hi
abbrev pub are_within : ℕ → ℕ → List ℕ → Bool
are_within lo hi words = list_all (λ w. nat_le lo w && nat_le w hi) words

-- the sum of the words modulo 2 ^ 64 is this one
abbrev pub sums_to : ℕ → List ℕ → Bool
sums_to total words = sum words % 2 ^ 64 == total

-- what a handed-in check answers of the words
unfoldable pub user_passes : UserSpec → List ℕ → Bool
user_passes (user.Range lo hi) words = are_within lo hi words
user_passes (user.Total total) words = sums_to total words

abbrev pub user_passes_if_kept : Option UserSpec → List ℕ → Bool
user_passes_if_kept None words = false
user_passes_if_kept (Some u) words = user_passes u words

-- the awaited words at a place
abbrev pub words_at : List (List ℕ) → ℕ → List ℕ
words_at inputs at = slice_index_or inputs at []

-- the sums of the awaited words, each times its factor
abbrev pub weighted_sums : List (List ℕ) → List Term → ℕ
weighted_sums inputs terms = sum_by (λ t. t.factor * sum (words_at inputs t.input)) terms

-- the words have the sum of the line at m after its step between those at l and r
abbrev pub keeps_line : List (List ℕ) → ℕ → ℕ → ℕ → ℕ → ℕ → List ℕ → Bool
keeps_line inputs l m r k s words = sums_to (line_sum_after (words_at inputs l) (words_at inputs m) (words_at inputs r) k s) words

-- the words have the sum of the grid at m after its step between its halos
abbrev pub keeps_grid : List (List ℕ) → ℕ → ℕ → ℕ → ℕ → ℕ → ℕ → ℕ → ℕ → List ℕ → Bool
keeps_grid inputs north south west east m cols k s words =
    let at = words_at inputs in
    sums_to (grid_sum_after (at north) (at south) (at west) (at east) (at m) cols k s) words

-- The words pass the check, given the matrices and the awaited words. For a handed-in check it is what it was said to ask that counts.
unfoldable pub spec_passes : Option UserSpec → List MatrixData → List (List ℕ) → Spec → List ℕ → Bool
spec_passes u matrices inputs (Range lo hi) words = are_within lo hi words
spec_passes u matrices inputs (Total total) words = sums_to total words
spec_passes u matrices inputs (Linear base terms count) words = sums_to ((base + weighted_sums inputs (take count terms)) % 2 ^ 64) words
spec_passes u matrices inputs (Conserve l m r k s) words = keeps_line inputs l m r k s words
spec_passes u matrices inputs (Conserve2 north south west east m cols k s) words = keeps_grid inputs north south west east m cols k s words
spec_passes u matrices inputs (Product matrix x) words = agrees_if_held (slice_get matrices matrix) (words_at inputs x) words
spec_passes u matrices inputs (User at) words = user_passes_if_kept u words
