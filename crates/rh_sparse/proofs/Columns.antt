-- The entries of a row, and the sums of a column.
use Rattle.std.proofs.Common.{◌≡◌, ℕ, suc, ◌+◌, ◌*◌, ◌^◌, ◌<◌, ◌≤◌, eqb, cond, List, [], ◌∷◌, Some, length, map, take, get_or, sum, refl, arith, ap, subst, ◌∙◌, inl, inr}
use Rattle.std.proofs.lemmas.Bool.{cases_eq, cond-true, cond-false, eq-eqb, ne_eqb}
use Rattle.std.proofs.lemmas.List.{get_or-map, map_more, length-map, length-take}
use Rattle.std.proofs.lemmas.List.FromFn.{length-map-range_with_len}
use Rattle.std.proofs.lemmas.List.Elements.{All-head, All-map, All-tail, All-take, All-weaker}
use Rattle.std.proofs.lemmas.List.Sums.{sum-map, sum_by-cons, sum_by-le, sum_by_more, sum_by_push, sum_by-take-le}
use Rattle.std.proofs.lemmas.Nat.{mul-le}
use Rattle.std.proofs.lemmas.Option.{get_or_from_slice_get}
use Rattle.std.specs.List.{All, range_with_len, slice_get}
use Rattle.rh_sparse.specs.declared.matrix.Cell.{Cell}
use Rattle.rh_words.specs.declared.limits.TheConstants.{MAX_MATRIX_SIDE, MAX_CELL_VALUE}
use Rattle.rh_sparse.specs.Matrix.{MatrixData, IsCell, IsRow, IsMatrix, Ascends}
use Rattle.rh_sparse.specs.Sums.{weighted_sum}
use Rattle.rh_sparse.specs.Checksums.{entry, column, AreSums}
use Rattle.rh_sparse.proofs.PlaceSums.{weighted_sum_push, sum_below_le}

-- what a cell adds to the entry of a column
abbrev pub part : ℕ → Cell → ℕ
part j cell = cond (eqb cell.col j) cell.value 0

pub part_here : (j : ℕ) (cell : Cell) → cell.col ≡ j → part j cell ≡ cell.value
part_here j cell here = cond-true (eqb cell.col j) cell.value 0 (eq-eqb cell.col j here)

pub part_elsewhere : (j : ℕ) (cell : Cell) → (cell.col ≡ j → ⊥) → part j cell ≡ 0
part_elsewhere j cell other = cond-false (eqb cell.col j) cell.value 0 (ne_eqb cell.col j other)

pub entry_none : (j : ℕ) → entry j [] ≡ 0
unfolding entry
entry_none j = refl

pub entry_cons : (j : ℕ) (cell : Cell) (row : List Cell) → entry j (cell ∷ row) ≡ part j cell + entry j row
unfolding entry
entry_cons j cell row = sum_by-cons (part j) cell row

pub entry_more : (j : ℕ) (row : List Cell) (i : ℕ) (d : Cell) → i < length row → entry j (take (i + 1) row) ≡ entry j (take i row) + part j (get_or row i d)
unfolding entry
entry_more j row i d within = sum_by_more (part j) row i d within

pub entry_so_far : (j : ℕ) (row : List Cell) (i : ℕ) → entry j (take i row) ≤ entry j row
unfolding entry
entry_so_far j row i = sum_by-take-le (part j) row i

-- Columns ascend, and the first is at least this one.
AscendFrom : ℕ → List Cell → Type 0
AscendFrom least [] = Unit {0}
AscendFrom least (cell ∷ row) = (least ≤ cell.col) × AscendFrom (cell.col + 1) row

ascend_from : (least : ℕ) (row : List Cell) → Ascends row → ((d : Cell) → 0 < length row → least ≤ (get_or row 0 d).col) → AscendFrom least row
unfolding AscendFrom
ascend_from least [] ascends first = tt
ascend_from least (cell ∷ row) ascends first =
    let rest : Ascends row = λ k d within.
    let up : suc k + 1 ≡ suc (k + 1) = omega arith in
    subst (λ (n : ℕ). (get_or row k d).col < (get_or (cell ∷ row) n d).col) up (ascends (suc k) d (omega arith)) in
    let next : (d : Cell) → 0 < length row → cell.col + 1 ≤ (get_or row 0 d).col = λ d some. let above : cell.col < (get_or row 0 d).col = ascends 0 d (omega arith) in omega arith in
    (first cell (omega arith), ascend_from (cell.col + 1) row rest next)

entry_past : (least j : ℕ) (row : List Cell) → AscendFrom least row → j < least → entry j row ≡ 0
unfolding AscendFrom
entry_past least j [] up past = entry_none j
entry_past least j (cell ∷ row) up past =
    let here = up.0 in
    omega (arith, entry_cons j cell row, part_elsewhere j cell (λ e. omega arith), entry_past (cell.col + 1) j row up.1 (omega arith))

entry_small_from : (cols least j : ℕ) (row : List Cell) → AscendFrom least row → All (IsCell cols) row → entry j row ≤ MAX_CELL_VALUE
unfolding AscendFrom
entry_small_from cols least j [] up cells = omega (arith, entry_none j)
entry_small_from cols least j (cell ∷ row) up cells =
    let small = (All-head (IsCell cols) cell row cells).value in
    elim (cases_eq cell.col j) [
      | inl here ↦ omega (arith, entry_cons j cell row, part_here j cell here, entry_past (cell.col + 1) j row up.1 (omega arith))
      | inr other ↦ omega (arith, entry_cons j cell row, part_elsewhere j cell other, entry_small_from cols (cell.col + 1) j row up.1 (All-tail (IsCell cols) cell row cells))
    ]

-- One more cell is added, times a factor, to the sum of its column.
pub added_none : (j old factor : ℕ) → old ≡ old + factor * entry j []
added_none j old factor = omega (arith, ap (λ (n : ℕ). factor * n) (entry_none j))

pub added_here : (old factor : ℕ) (row : List Cell) (i : ℕ) (d : Cell) → i < length row
    → let cell = get_or row i d in old + factor * entry cell.col (take i row) + factor * cell.value ≡ old + factor * entry cell.col (take (i + 1) row)
added_here old factor row i d within =
    let cell = get_or row i d in
    omega (arith, ap (λ (n : ℕ). factor * n) (entry_more cell.col row i d within), ap (λ (n : ℕ). factor * n) (part_here cell.col cell refl))

pub added_elsewhere : (j old factor : ℕ) (row : List Cell) (i : ℕ) (d : Cell) → i < length row → ((get_or row i d).col ≡ j → ⊥)
    → old + factor * entry j (take i row) ≡ old + factor * entry j (take (i + 1) row)
added_elsewhere j old factor row i d within other =
    omega (arith, ap (λ (n : ℕ). factor * n) (entry_more j row i d within), ap (λ (n : ℕ). factor * n) (part_elsewhere j (get_or row i d) other))

-- a lawful row has at most one cell of a column
pub entry_small : (cols j : ℕ) (row : List Cell) → IsRow cols row → entry j row ≤ MAX_CELL_VALUE
entry_small cols j row lawful = entry_small_from cols 0 j row (ascend_from 0 row lawful.ascending (λ d some. omega arith)) lawful.cells

pub added_fits : (cols old factor : ℕ) (row : List Cell) (i : ℕ) (d : Cell) → i < length row → IsRow cols row → old < 2 ^ 63 → factor ≤ MAX_MATRIX_SIDE
    → let cell = get_or row i d in old + factor * entry cell.col (take i row) + factor * cell.value < 2 ^ 64
added_fits cols old factor row i d within lawful small few =
    let cell = get_or row i d in
    let so_far = entry_so_far cell.col row (i + 1) in
    let whole = entry_small cols cell.col row lawful in
    let bound = mul-le factor (entry cell.col (take (i + 1) row)) MAX_MATRIX_SIDE MAX_CELL_VALUE few (omega arith) in
    omega (arith, added_here old factor row i d within)

-- one more row below the others
pub column_sum_more : (j : ℕ) (rows : List (List Cell)) (i : ℕ) (row : List Cell) → i < length rows → slice_get rows i ≡ Some row
    → sum (map (entry j) (take (i + 1) rows)) ≡ sum (map (entry j) (take i rows)) + entry j row
column_sum_more j rows i row within here =
    ap sum (map_more (entry j) rows i row within) ∙ sum_by_push (λ y. y) (map (entry j) (take i rows)) (entry j (get_or rows i row))
    ∙ ap (λ (r : List Cell). sum (map (entry j) (take i rows)) + entry j r) (get_or_from_slice_get rows i row row here)

pub column_weighted_sum_more : (j : ℕ) (rows : List (List Cell)) (i : ℕ) (row : List Cell) → i < length rows → slice_get rows i ≡ Some row
    → weighted_sum (map (entry j) (take (i + 1) rows)) ≡ weighted_sum (map (entry j) (take i rows)) + (i + 1) * entry j row
column_weighted_sum_more j rows i row within here =
    let count : length (map (entry j) (take i rows)) ≡ i = length-map (take i rows) (entry j) ∙ length-take i rows ∙ omega arith in
    ap weighted_sum (map_more (entry j) rows i row within) ∙ weighted_sum_push (map (entry j) (take i rows)) (entry j (get_or rows i row))
    ∙ ap (λ (r : List Cell). weighted_sum (map (entry j) (take i rows)) + (length (map (entry j) (take i rows)) + 1) * entry j r) (get_or_from_slice_get rows i row row here)
    ∙ ap (λ (n : ℕ). weighted_sum (map (entry j) (take i rows)) + (n + 1) * entry j row) count

-- the sums of a column of so many lawful rows
pub column_sum_le : (cols j : ℕ) (rows : List (List Cell)) → All (IsRow cols) rows → sum (map (entry j) rows) ≤ length rows * MAX_CELL_VALUE
column_sum_le cols j rows lawful =
    let small = All-weaker (IsRow cols) (λ row. entry j row ≤ MAX_CELL_VALUE) (entry_small cols j) rows lawful in
    omega (arith, sum-map (entry j) rows, sum_by-le (entry j) MAX_CELL_VALUE rows small)

pub column_weighted_sum_le : (cols j : ℕ) (rows : List (List Cell)) → All (IsRow cols) rows → length rows ≤ MAX_MATRIX_SIDE
    → weighted_sum (map (entry j) rows) ≤ length rows * (MAX_MATRIX_SIDE * MAX_CELL_VALUE)
column_weighted_sum_le cols j rows lawful few =
    let count = length-map rows (entry j) in
    let small : (i : ℕ) → i < length (map (entry j) rows) → (i + 1) * get_or (map (entry j) rows) i 0 ≤ MAX_MATRIX_SIDE * MAX_CELL_VALUE =
    λ i within.
    let here = get_or-map (entry j) rows i [] 0 (omega arith) in
    mul-le (i + 1) (get_or (map (entry j) rows) i 0) MAX_MATRIX_SIDE MAX_CELL_VALUE (omega arith) (omega (arith, entry_small cols j (get_or rows i []) (lawful i [] (omega arith)))) in
    let whole = sum_below_le (length (map (entry j) rows)) (MAX_MATRIX_SIDE * MAX_CELL_VALUE) (λ i. (i + 1) * get_or (map (entry j) rows) i 0) small in
    omega arith

pub plain_sums_small : (a : MatrixData) → IsMatrix a → AreSums (map (λ j. sum (column a j)) (range_with_len 0 a.cols)) (2 ^ 32)
plain_sums_small a lawful = record {
  few = omega (arith, length-map-range_with_len (λ j. sum (column a j)) 0 a.cols, lawful.few_columns);
  small = All-map (λ s. s < 2 ^ 32) (λ j. sum (column a j)) (range_with_len 0 a.cols) (λ k d within. let le = column_sum_le a.cols (get_or (range_with_len 0 a.cols) k d) a.rows lawful.lawful_rows in let few = lawful.few_rows in omega arith);
}

pub weighted_sums_small : (a : MatrixData) → IsMatrix a → AreSums (map (λ j. weighted_sum (column a j)) (range_with_len 0 a.cols)) (2 ^ 44)
weighted_sums_small a lawful = record {
  few = omega (arith, length-map-range_with_len (λ j. weighted_sum (column a j)) 0 a.cols, lawful.few_columns);
  small = All-map (λ s. s < 2 ^ 44) (λ j. weighted_sum (column a j)) (range_with_len 0 a.cols) (λ k d within. let le = column_weighted_sum_le a.cols (get_or (range_with_len 0 a.cols) k d) a.rows lawful.lawful_rows lawful.few_rows in let few = lawful.few_rows in omega arith);
}

-- the sums so far, of the rows above this one
pub plain_sum_so_far : (a : MatrixData) (i j : ℕ) → IsMatrix a → i < length a.rows → sum (map (entry j) (take i a.rows)) < 2 ^ 63
plain_sum_so_far a i j lawful within =
    let le = column_sum_le a.cols j (take i a.rows) (All-take (IsRow a.cols) i a.rows lawful.lawful_rows) in
    let few = lawful.few_rows in
    omega (arith, length-take i a.rows)

pub weighted_sum_so_far : (a : MatrixData) (i j : ℕ) → IsMatrix a → i < length a.rows → weighted_sum (map (entry j) (take i a.rows)) < 2 ^ 63
weighted_sum_so_far a i j lawful within =
    let few = lawful.few_rows in
    let le = column_weighted_sum_le a.cols j (take i a.rows) (All-take (IsRow a.cols) i a.rows lawful.lawful_rows) (omega (arith, length-take i a.rows)) in
    omega (arith, length-take i a.rows)
