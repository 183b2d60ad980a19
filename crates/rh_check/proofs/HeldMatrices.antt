-- What the code of a product's check reads of the matrix that it names.
use Rattle.std.proofs.Common.{◌≡◌, ◌∙◌, ℕ, List, [], Bool, Option, Some, None, length, ap, sym}
use Rattle.std.proofs.lemmas.Option.{get_or_from_slice_get}
use Rattle.std.proofs.lemmas.List.FromFn.{length-map-range_with_len}
use Rattle.std.specs.Prelude.{sum}
use Rattle.std.specs.List.{slice_get, slice_index_or}
use Rattle.std.specs.Option.{IsSomeAnd}
use Rattle.rh_sparse.specs.Matrix.{MatrixData, IsMatrix}
use Rattle.rh_sparse.specs.Checksums.{ChecksumData, checksums_of, column}
use Rattle.rh_check.specs.Matrices.{agrees_with, agrees_if_held, FitsMatrix}

abbrev AreSumsOf : Option MatrixData → ChecksumData → Type 0
AreSumsOf held sums = IsSomeAnd held (λ a. (sums ≡ checksums_of a) × IsMatrix a)

-- the input has a word for each column
pub columns_fit : (held : Option MatrixData) (inputs : List (List ℕ)) (x : ℕ) (words input : List ℕ) (sums : ChecksumData) → IsSomeAnd held (λ a. FitsMatrix a inputs x words) → AreSumsOf held sums → slice_get inputs x ≡ Some input → length input ≡ length sums.plain
columns_fit None inputs x words input sums fits are at = absurd fits
columns_fit (Some a) inputs x words input sums fits are at =
    let here : slice_index_or inputs x [] ≡ input = get_or_from_slice_get inputs x input [] at in
    let columns : length sums.plain ≡ a.cols = ap (λ (s : ChecksumData). length s.plain) are.0 ∙ length-map-range_with_len (λ j. sum (column a j)) 0 a.cols in
    ap length (sym here) ∙ fits.columns ∙ sym columns

-- the checksums that are kept are those of the matrix
pub held_agree : (held : Option MatrixData) (inputs : List (List ℕ)) (x : ℕ) (words input : List ℕ) (sums : ChecksumData) (answer : Bool) → AreSumsOf held sums → slice_get inputs x ≡ Some input → answer ≡ agrees_with sums input words → answer ≡ agrees_if_held held (slice_index_or inputs x []) words
held_agree None inputs x words input sums answer are at is = absurd are
held_agree (Some a) inputs x words input sums answer are at is =
    is ∙ ap (λ (s : ChecksumData). agrees_with s input words) are.0
    ∙ ap (λ (l : List ℕ). agrees_with (checksums_of a) l words) (sym (get_or_from_slice_get inputs x input [] at))
