-- Words that agree with both checksums of a product are restored where one of them is altered, and do not agree with them then.
use Rattle.std.proofs.Common.{◌≡◌, ◌∙◌, ℤ, pos, ℕ, List, length, true, false, Option, Some, None, refl, ap, sym}
use Rattle.std.proofs.lemmas.Bool.{false≢true, false_from_ne_true, and_parts, and_from, cond-true}
use Rattle.std.proofs.lemmas.Bool.Decides.{Decides-int_eq}
use Rattle.std.proofs.lemmas.Option.{none-some}
use Rattle.std.specs.List.{find, range_with_len}
use Rattle.std.specs.Option.{option_and_then}
use Rattle.std.specs.Ordering.{int_eq}
use Rattle.rh_sparse.specs.Matrix.{MatrixData}
use Rattle.rh_sparse.specs.Checksums.{ChecksumData, checksums_of, plain_difference, weighted_difference, AgreesWith}
use Rattle.rh_sparse.specs.Correction.{restored, restored_at, names_row}
use Rattle.rh_sparse.specs.Laws.{DiffersInOneWord}
use Rattle.rh_sparse.proofs.Altering.{one_altered_word_restored}
use Rattle.rh_check.specs.Matrices.{agrees_with, agrees_if_held}

-- words that agree with checksums, as a fact
agreement : (sums : ChecksumData) (x ys : List ℕ) → agrees_with sums x ys ≡ true → AgreesWith sums x ys
agreement sums x ys agrees =
    let d1 = plain_difference sums x ys in
    let d2 = weighted_difference sums x ys in
    let (plain, weighted) = and_parts (int_eq d1 (pos 0)) (int_eq d2 (pos 0)) agrees in
    record { plain = (Decides-int_eq d1 (pos 0)).0 plain; weighted = (Decides-int_eq d2 (pos 0)).0 weighted }

-- nothing is restored where the first difference is 0
none_restored : (ys : List ℕ) (d1 d2 : ℤ) → d1 ≡ pos 0 → restored ys d1 d2 ≡ None
unfolding restored
none_restored ys d1 d2 none =
    ap (option_and_then (restored_at ys d1)) (cond-true (int_eq d1 (pos 0)) None (find (names_row d1 d2) (range_with_len 0 (length ys))) ((Decides-int_eq d1 (pos 0)).1 none))

-- words that agree with the checksums of a matrix that is held: one altered word is restored, and is refused
pub restored_and_refused : (a : MatrixData) (x ys zs : List ℕ) → (one : DiffersInOneWord ys zs) → agrees_with (checksums_of a) x ys ≡ true
    → (restored zs (plain_difference (checksums_of a) x zs) (weighted_difference (checksums_of a) x zs) ≡ Some (one.at, ys)) × (agrees_with (checksums_of a) x zs ≡ false)
restored_and_refused a x ys zs one agrees =
    let sums = checksums_of a in
    let d1 = plain_difference sums x zs in
    let d2 = weighted_difference sums x zs in
    let found = one_altered_word_restored sums x ys zs (agreement sums x ys agrees) one in (
      found,
      false_from_ne_true (agrees_with sums x zs) (λ also.
          let none = none_restored zs d1 d2 (agreement sums x zs also).plain in
          none-some (one.at, ys) (sym none ∙ found)),
    )

-- the same where the matrix may not be held
pub altered_product : (held : Option MatrixData) (x ys zs : List ℕ) → DiffersInOneWord ys zs → agrees_if_held held x ys ≡ true → agrees_if_held held x zs ≡ false
altered_product None x ys zs one agrees = refl
altered_product (Some a) x ys zs one agrees = (restored_and_refused a x ys zs one agrees).1
