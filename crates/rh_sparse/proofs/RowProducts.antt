-- The words of a product, one cell and one row after another.
use Rattle.std.proofs.Common.{◌≡◌, ℕ, ◌+◌, ◌*◌, ◌%◌, ◌^◌, ◌<◌, ◌≤◌, List, [], ◌∷◌, ◌++◌, Some, length, map, take, get_or, refl, arith, ap, ◌∙◌}
use Rattle.std.proofs.lemmas.List.{map_more}
use Rattle.std.proofs.lemmas.List.Sums.{sum_by_more}
use Rattle.std.proofs.lemmas.Nat.{mul-le}
use Rattle.std.proofs.lemmas.Option.{get_or_from_slice_get}
use Rattle.std.specs.List.{slice_get}
use Rattle.rh_sparse.specs.declared.matrix.Cell.{Cell}
use Rattle.rh_sparse.specs.Product.{low_word, row_product}

pub row_product_none : (x : List ℕ) → row_product x [] ≡ 0
unfolding row_product
row_product_none x = refl

pub row_product_more : (x : List ℕ) (row : List Cell) (i : ℕ) (d : Cell) → i < length row
    → row_product x (take (i + 1) row) ≡ row_product x (take i row) + (get_or row i d).value * low_word x (get_or row i d).col
unfolding row_product
row_product_more x row i d within = sum_by_more (λ cell. cell.value * low_word x cell.col) row i d within

-- what one cell adds is below 2 ^ 52
pub cell_below : (value word : ℕ) → value ≤ 1048575 → value * (word % 2 ^ 32) + 1 ≤ 2 ^ 52
cell_below value word small = omega (arith, mul-le value (word % 2 ^ 32) 1048575 4294967295 small (omega arith))

pub product_more : (x : List ℕ) (rows : List (List Cell)) (i : ℕ) (row : List Cell) → i < length rows → slice_get rows i ≡ Some row
    → map (row_product x) (take (i + 1) rows) ≡ map (row_product x) (take i rows) ++ row_product x row ∷ []
product_more x rows i row within here =
    map_more (row_product x) rows i row within ∙ ap (λ (r : List Cell). map (row_product x) (take i rows) ++ row_product x r ∷ []) (get_or_from_slice_get rows i row row here)
