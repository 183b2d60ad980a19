-- A product agrees with the checksums of its matrix: the sum over rows of sums over columns is the sum over columns of sums over rows.
use Rattle.std.proofs.Common.{◌≡◌, ℕ, zero, suc, ◌+◌, ◌*◌, ◌<◌, ◌≤◌, pos, ◌-ℤ◌, List, [], ◌∷◌, length, map, get_or, take, sum, refl, arith, ap, sym, ◌∙◌}
use Rattle.std.proofs.lemmas.Int.{ints}
use Rattle.std.proofs.lemmas.List.{get_or-map, length-map, take_all}
use Rattle.std.proofs.lemmas.List.Elements.{All-head, All-tail}
use Rattle.std.proofs.lemmas.List.FromFn.{get_or-map-range_with_len}
use Rattle.std.proofs.lemmas.List.Sums.{sum_by-cons, sum_by_more}
use Rattle.std.specs.List.{All, range_with_len}
use Rattle.rh_sparse.specs.declared.matrix.Cell.{Cell}
use Rattle.rh_sparse.specs.Matrix.{MatrixData, IsCell, IsRow, IsMatrix}
use Rattle.rh_sparse.specs.Product.{low_word, row_product, product_value}
use Rattle.rh_words.specs.Sums.{sum_below}
use Rattle.rh_sparse.specs.Sums.{weighted_sum}
use Rattle.rh_sparse.specs.Checksums.{entry, column, checksums_of, expected_sum, plain_difference, weighted_difference}
use Rattle.rh_sparse.specs.Laws.{ProductsAgree, OneAlteredWordOfAProductIsRestored}
use Rattle.rh_sparse.proofs.Altering.{one_altered_word_restored}
use Rattle.rh_sparse.proofs.Columns.{part, part_here, part_elsewhere, entry_none, entry_cons}
use Rattle.rh_sparse.proofs.PlaceSums.{sum_below_same, sum_below_zero, sum_below_add, sum_below_times, sum_below_exchanged, sum_below_changed}

row_product_cons : (x : List ℕ) (cell : Cell) (row : List Cell) → row_product x (cell ∷ row) ≡ cell.value * low_word x cell.col + row_product x row
unfolding row_product
row_product_cons x cell row = sum_by-cons (λ c. c.value * low_word x c.col) cell row

row_product_nil : (x : List ℕ) → row_product x [] ≡ 0
unfolding row_product
row_product_nil x = refl

-- one cell counts in its own column alone
cell_by_columns : (cols : ℕ) (u : ℕ → ℕ) (cell : Cell) → cell.col < cols → cell.value * u cell.col ≡ sum_below cols (λ j. part j cell * u j)
cell_by_columns cols u cell within =
    let elsewhere : (j : ℕ) → j < cols → (j ≡ cell.col → ⊥) → part j cell * u j ≡ 0 = λ j below other. ap (λ (n : ℕ). n * u j) (part_elsewhere j cell (λ e. other (sym e))) ∙ omega arith in
    let changed = sum_below_changed cols (λ j. part j cell * u j) (λ j. 0) cell.col within elsewhere in
    let none = sum_below_zero cols (λ j. 0) (λ i below. refl) in
    let here = ap (λ (n : ℕ). n * u cell.col) (part_here cell.col cell refl) in
    omega arith

row_by_columns : (cols : ℕ) (x : List ℕ) (row : List Cell) → All (IsCell cols) row → row_product x row ≡ sum_below cols (λ j. entry j row * low_word x j)
row_by_columns cols x [] cells =
    row_product_nil x ∙ sym (sum_below_zero cols (λ j. entry j [] * low_word x j) (λ j below. ap (λ (n : ℕ). n * low_word x j) (entry_none j) ∙ omega arith))
row_by_columns cols x (cell ∷ row) cells =
    let here = cell_by_columns cols (low_word x) cell (All-head (IsCell cols) cell row cells).column in
    let rest = row_by_columns cols x row (All-tail (IsCell cols) cell row cells) in
    let both = sum_below_add cols (λ j. part j cell * low_word x j) (λ j. entry j row * low_word x j) in
    let apart : (j : ℕ) → j < cols → entry j (cell ∷ row) * low_word x j ≡ part j cell * low_word x j + entry j row * low_word x j =
    λ j below. ap (λ (n : ℕ). n * low_word x j) (entry_cons j cell row) ∙ omega arith in
    let whole = sum_below_same cols (λ j. entry j (cell ∷ row) * low_word x j) (λ j. part j cell * low_word x j + entry j row * low_word x j) apart in
    omega (arith, row_product_cons x cell row)

-- weighted sums of all rows, by columns
rows_by_columns : (weight : ℕ → ℕ) (cols : ℕ) (x : List ℕ) (rows : List (List Cell)) → All (IsRow cols) rows
    → sum_below (length rows) (λ i. weight i * row_product x (get_or rows i []))
    ≡ sum_below cols (λ j. sum_below (length rows) (λ i. weight i * entry j (get_or rows i [])) * low_word x j)
rows_by_columns weight cols x rows lawful =
    let n = length rows in
    let term : ℕ → ℕ → ℕ = λ i j. weight i * entry j (get_or rows i []) * low_word x j in
    let row : (i : ℕ) → i < n → weight i * row_product x (get_or rows i []) ≡ sum_below cols (term i) = λ i below.
    ap (λ (m : ℕ). weight i * m) (row_by_columns cols x (get_or rows i []) (lawful i [] below).cells)
    ∙ sym (sum_below_times cols (weight i) (λ j. entry j (get_or rows i []) * low_word x j))
    ∙ sum_below_same cols (λ j. weight i * (entry j (get_or rows i []) * low_word x j)) (term i) (λ j within. omega arith) in
    let out : (j : ℕ) → j < cols → sum_below n (λ i. term i j) ≡ sum_below n (λ i. weight i * entry j (get_or rows i [])) * low_word x j = λ j within.
    let times = sum_below_times n (low_word x j) (λ i. weight i * entry j (get_or rows i [])) in
    let turned = sum_below_same n (λ i. term i j) (λ i. low_word x j * (weight i * entry j (get_or rows i []))) (λ i below. omega arith) in
    omega arith in
    sum_below_same n (λ i. weight i * row_product x (get_or rows i [])) (λ i. sum_below cols (term i)) row
    ∙ sum_below_exchanged n cols term
    ∙ sum_below_same cols (λ j. sum_below n (λ i. term i j)) (λ j. sum_below n (λ i. weight i * entry j (get_or rows i [])) * low_word x j) out

-- a sum and a weighted sum over the rows
sum_so_far : (ys : List ℕ) (n : ℕ) → n ≤ length ys → sum (take n ys) ≡ sum_below n (λ i. 1 * get_or ys i 0)
sum_so_far ys zero within = refl
sum_so_far ys (suc n) within =
    let next : n + 1 ≡ suc n = omega arith in
    let more = sum_by_more (λ y. y) ys n 0 (omega arith) in
    ap (λ (k : ℕ). sum (take k ys)) (sym next) ∙ omega (arith, sum_so_far ys n (omega arith))

sum_by_rows : (f : List Cell → ℕ) (rows : List (List Cell)) → sum (map f rows) ≡ sum_below (length rows) (λ i. 1 * f (get_or rows i []))
sum_by_rows f rows =
    let ys = map f rows in
    let count = length-map rows f in
    ap sum (sym (take_all (length rows) ys (omega arith))) ∙ sum_so_far ys (length rows) (omega arith)
    ∙ sum_below_same (length rows) (λ i. 1 * get_or ys i 0) (λ i. 1 * f (get_or rows i [])) (λ i below. ap (λ (n : ℕ). 1 * n) (get_or-map f rows i [] 0 below))

weighted_sum_by_rows : (f : List Cell → ℕ) (rows : List (List Cell)) → weighted_sum (map f rows) ≡ sum_below (length rows) (λ i. (i + 1) * f (get_or rows i []))
weighted_sum_by_rows f rows =
    let ys = map f rows in
    ap (λ (n : ℕ). sum_below n (λ i. (i + 1) * get_or ys i 0)) (length-map rows f)
    ∙ sum_below_same (length rows) (λ i. (i + 1) * get_or ys i 0) (λ i. (i + 1) * f (get_or rows i [])) (λ i below. ap (λ (n : ℕ). (i + 1) * n) (get_or-map f rows i [] 0 below))

-- what sums of the columns expect is the sum over the rows
expected_by_rows : (weight : ℕ → ℕ) (total : List ℕ → ℕ) (a : MatrixData) (x : List ℕ) → IsMatrix a → length x ≡ a.cols
    → ((f : List Cell → ℕ) → total (map f a.rows) ≡ sum_below (length a.rows) (λ i. weight i * f (get_or a.rows i [])))
    → total (product_value a x) ≡ expected_sum (map (λ j. total (column a j)) (range_with_len 0 a.cols)) x
expected_by_rows weight total a x lawful long by_rows =
    let n = length a.rows in
    let sums = map (λ j. total (column a j)) (range_with_len 0 a.cols) in
    let column_sum : (j : ℕ) → j < a.cols → sum_below n (λ i. weight i * entry j (get_or a.rows i [])) * low_word x j ≡ get_or sums j 0 * low_word x j = λ j within.
    ap (λ (m : ℕ). m * low_word x j) (sym (by_rows (entry j)) ∙ sym (get_or-map-range_with_len (λ k. total (column a k)) 0 a.cols j j 0 within (omega arith))) in
    by_rows (row_product x) ∙ rows_by_columns weight a.cols x a.rows lawful.lawful_rows
    ∙ sum_below_same a.cols (λ j. sum_below n (λ i. weight i * entry j (get_or a.rows i [])) * low_word x j) (λ j. get_or sums j 0 * low_word x j) column_sum
    ∙ ap (λ (m : ℕ). sum_below m (λ j. get_or sums j 0 * low_word x j)) (sym long)

no_difference : (a b : ℕ) → a ≡ b → pos a -ℤ pos b ≡ pos 0
no_difference a b same = omega (arith, ints)

pub products_do_agree : ProductsAgree
unfolding plain_difference weighted_difference
products_do_agree a x lawful long = record {
  plain = no_difference (sum (product_value a x)) (expected_sum (checksums_of a).plain x) (expected_by_rows (λ i. 1) sum a x lawful long (λ f. sum_by_rows f a.rows));
  weighted = no_difference (weighted_sum (product_value a x)) (expected_sum (checksums_of a).weighted x) (expected_by_rows (λ i. i + 1) weighted_sum a x lawful long (λ f. weighted_sum_by_rows f a.rows));
}

pub altered_product_restored : OneAlteredWordOfAProductIsRestored
altered_product_restored a x zs lawful long one = one_altered_word_restored (checksums_of a) x (product_value a x) zs (products_do_agree a x lawful long) one
