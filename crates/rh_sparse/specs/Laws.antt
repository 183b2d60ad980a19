-- What holds of checksums and corrections, whatever the matrix and the words.
use Rattle.std.specs.Prelude.{ℕ, ◌≡◌, ◌≢◌, ◌<◌, ◌^◌, ◌↔◌, ℤ, List, Some, length, slice_index, slice_set}
use Rattle.rh_sparse.specs.Matrix.{MatrixData, IsMatrix}
use Rattle.rh_sparse.specs.Product.{product_value}
use Rattle.rh_sparse.specs.Checksums.{ChecksumData, checksums_of, plain_difference, weighted_difference, AgreesWith}
use Rattle.rh_sparse.specs.Correction.{restored, IsRestored}

-- zs are ys with another word in one place
pub record DiffersInOneWord (ys zs : List ℕ) : Type 0 where
  pub at : ℕ
  pub word : ℕ
  pub within : at < length ys
  pub range : word < 2 ^ 64
  pub was : slice_index ys at < 2 ^ 64
  pub other : word ≢ slice_index ys at
  pub altered : zs ≡ slice_set ys at word

-- The product of a matrix and a list of words agrees with the matrix's checksums.
abbrev pub ProductsAgree : Type 0
ProductsAgree = (a : MatrixData) (x : List ℕ) → IsMatrix a → length x ≡ a.cols → AgreesWith (checksums_of a) x (product_value a x)

-- Words that agree with checksums, altered in exactly one place, are restored by their own differences.
abbrev pub OneAlteredWordIsRestored : Type 0
OneAlteredWordIsRestored = (sums : ChecksumData) (x ys zs : List ℕ) → AgreesWith sums x ys → (one : DiffersInOneWord ys zs)
    → restored zs (plain_difference sums x zs) (weighted_difference sums x zs) ≡ Some (one.at, ys)

-- So is a product.
abbrev pub OneAlteredWordOfAProductIsRestored : Type 0
OneAlteredWordOfAProductIsRestored = (a : MatrixData) (x zs : List ℕ) → IsMatrix a → length x ≡ a.cols → (one : DiffersInOneWord (product_value a x) zs)
    → restored zs (plain_difference (checksums_of a) x zs) (weighted_difference (checksums_of a) x zs) ≡ Some (one.at, product_value a x)

-- The function and the relation of restored words are one.
abbrev pub RestoredIsRelation : Type 0
RestoredIsRelation = (ys zs : List ℕ) (d1 d2 : ℤ) (i : ℕ) → (restored ys d1 d2 ≡ Some (i, zs)) ↔ IsRestored ys d1 d2 i zs

-- Two differences name one row at most, and leave one list of words.
abbrev pub RestoredWordsAreUnique : Type 0
RestoredWordsAreUnique = (ys zs others : List ℕ) (d1 d2 : ℤ) (i j : ℕ) → IsRestored ys d1 d2 i zs → IsRestored ys d1 d2 j others → (i ≡ j) × (zs ≡ others)
