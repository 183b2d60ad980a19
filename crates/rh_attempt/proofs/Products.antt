-- A sound product reads a matrix and a local that are there, with a word for each column.
use Rattle.std.proofs.Common.{◌≡◌, ◌∙◌, ℕ, zero, suc, ◌<◌, List, [], ◌∷◌, Option, Some, length, map, slice_index, refl, arith, ap, sym, subst}
use Rattle.std.proofs.lemmas.List.{length-map}
use Rattle.std.proofs.lemmas.Option.{same_Some}
use Rattle.std.specs.List.{slice_get}
use Rattle.std.specs.Option.{IsSomeAnd}
use Rattle.rh_sparse.specs.Matrix.{MatrixData}
use Rattle.rh_sparse.specs.Product.{product_value}
use Rattle.rh_rules.specs.declared.shape.Shape.{Shape}
use Rattle.rh_rules.specs.Bodies.{shapes_of}
use Rattle.rh_check.specs.Checks.{words_at}
use Rattle.rh_plan.specs.Buffers.{product_if_held}

pub matrix_there : (matrices held : List MatrixData) (matrix : ℕ) (P : Shape → Type 0) → held ≡ matrices → IsSomeAnd (slice_get (shapes_of matrices) matrix) P → matrix < length held
matrix_there matrices held matrix P is there = subst (λ (l : List MatrixData). matrix < length l) (sym is) (within matrices matrix there)
  where
    within : (l : List MatrixData) (n : ℕ) → IsSomeAnd (slice_get (shapes_of l) n) P → n < length l
    within [] n there = absurd there
    within (a ∷ l) zero there = omega arith
    within (a ∷ l) (suc n) there = let rest = within l n there in omega arith

pub local_there : (locals : List (List ℕ)) (v : ℕ) → v < length (map length locals) → v < length locals
local_there locals v there = subst (λ (n : ℕ). v < n) (length-map locals length) there

len_at : (locals : List (List ℕ)) (i : ℕ) → i < length (map length locals) → length (words_at locals i) ≡ slice_index (map length locals) i
len_at [] i within = absurd (omega arith)
len_at (l ∷ locals) zero within = refl
len_at (l ∷ locals) (suc i) within = len_at locals i (omega arith)

columns_at : (matrices : List MatrixData) (matrix n : ℕ) (a : MatrixData) → IsSomeAnd (slice_get (shapes_of matrices) matrix) (λ s. n ≡ s.cols) → slice_get matrices matrix ≡ Some a → n ≡ a.cols
columns_at [] matrix n a same at = absurd same
columns_at (b ∷ matrices) zero n a same at = same ∙ ap (λ (c : MatrixData). c.cols) (same_Some b a at)
columns_at (b ∷ matrices) (suc matrix) n a same at = columns_at matrices matrix n a same at

-- the local has a word for each column
pub columns_fit : (matrices held : List MatrixData) (matrix v : ℕ) (locals : List (List ℕ)) (words : List ℕ) (a : MatrixData) → held ≡ matrices → words ≡ words_at locals v → slice_get held matrix ≡ Some a → v < length (map length locals) → IsSomeAnd (slice_get (shapes_of matrices) matrix) (λ s. slice_index (map length locals) v ≡ s.cols) → length words ≡ a.cols
columns_fit matrices held matrix v locals words a is words_are at there same =
    ap length words_are ∙ len_at locals v there ∙ columns_at matrices matrix (slice_index (map length locals) v) a same (ap (λ (l : List MatrixData). slice_get l matrix) (sym is) ∙ at)

pub product_is : (matrices held : List MatrixData) (matrix : ℕ) (words local w : List ℕ) (a : MatrixData) → held ≡ matrices → words ≡ local → slice_get held matrix ≡ Some a → w ≡ product_value a words → w ≡ product_if_held (slice_get matrices matrix) local
product_is matrices held matrix words local w a is words_are at made =
    made ∙ ap (product_value a) words_are ∙ ap (λ (o : Option MatrixData). product_if_held o local) (sym (ap (λ (l : List MatrixData). slice_get l matrix) (sym is) ∙ at))
