-- One altered word: how far it moves the two sums, and that the differences restore it.
use Rattle.std.proofs.Common.{◌≡◌, ℕ, suc, ◌+◌, ◌*◌, ◌-◌, ◌<◌, ℤ, pos, negsuc, neg_ℤ, ◌-ℤ◌, ◌*ℤ◌, List, length, get_or, set, sum, arith, ap, sym, ◌∙◌, inl, inr}
use Rattle.std.proofs.lemmas.Bool.{cases_lt}
use Rattle.std.proofs.lemmas.Int.{ints}
use Rattle.std.proofs.lemmas.List.{set-set, set-get_or, get_or-set_same, get_or-set_other, length-set}
use Rattle.std.proofs.lemmas.List.Sums.{sum_by-set}
use Rattle.rh_words.specs.Sums.{sum_below}
use Rattle.rh_sparse.specs.Sums.{weighted_sum}
use Rattle.rh_sparse.specs.Checksums.{ChecksumData, plain_difference, weighted_difference, AgreesWith}
use Rattle.rh_sparse.specs.Correction.{IsRestored}
use Rattle.rh_sparse.specs.Laws.{DiffersInOneWord, OneAlteredWordIsRestored}
use Rattle.rh_sparse.proofs.PlaceSums.{sum_below_changed}
use Rattle.rh_sparse.proofs.Restoring.{restored_is}

-- one word set moves the weighted sum by its weight
weighted_sum_set : (ys : List ℕ) (i w : ℕ) → i < length ys → weighted_sum (set ys i w) + (i + 1) * get_or ys i 0 ≡ weighted_sum ys + (i + 1) * w
weighted_sum_set ys i w within =
    let before : ℕ → ℕ = λ k. (k + 1) * get_or ys k 0 in
    let after : ℕ → ℕ = λ k. (k + 1) * get_or (set ys i w) k 0 in
    let same = sum_below_changed (length ys) after before i within (λ k below other. ap (λ (n : ℕ). (k + 1) * n) (get_or-set_other ys i k w 0 other)) in
    let long = ap (λ (n : ℕ). sum_below n after) (length-set ys i w) in
    let here = ap (λ (n : ℕ). (i + 1) * n) (get_or-set_same ys i w 0 within) in
    omega arith

-- a multiple of a difference is the difference of the multiples
multiple_of_difference : (k a b : ℕ) → pos k *ℤ (pos a -ℤ pos b) ≡ pos (k * a) -ℤ pos (k * b)
multiple_of_difference k a b = elim (cases_lt a b) [
  | inl below ↦
      let d : ℕ = b - a - 1 in
      let up : b ≡ a + suc d = omega arith in
      let negative : pos a -ℤ pos b ≡ negsuc d = omega (arith, ints) in
      let product : k * b ≡ k * a + k * suc d = ap (λ (n : ℕ). k * n) up ∙ omega arith in
      let apart : pos (k * a) -ℤ pos (k * b) ≡ neg_ℤ (pos (k * suc d)) = omega (arith, ints) in
      ap (λ (z : ℤ). pos k *ℤ z) negative ∙ sym apart
  | inr above ↦
      let d : ℕ = a - b in
      let up : a ≡ b + d = omega arith in
      let positive : pos a -ℤ pos b ≡ pos d = omega (arith, ints) in
      let product : k * a ≡ k * b + k * d = ap (λ (n : ℕ). k * n) up ∙ omega arith in
      let apart : pos (k * a) -ℤ pos (k * b) ≡ pos (k * d) = omega (arith, ints) in
      ap (λ (z : ℤ). pos k *ℤ z) positive ∙ sym apart
]

-- the differences of words with one altered word
plain_difference_of_one : (sums : ChecksumData) (x ys zs : List ℕ) → AgreesWith sums x ys → (one : DiffersInOneWord ys zs)
    → plain_difference sums x zs ≡ pos one.word -ℤ pos (get_or ys one.at 0)
unfolding plain_difference
plain_difference_of_one sums x ys zs agrees one =
    let none = agrees.plain in
    let moved = ap (λ (l : List ℕ). sum l + get_or ys one.at 0) one.altered ∙ sum_by-set (λ y. y) ys one.at one.word 0 one.within in
    omega (arith, ints)

weighted_difference_of_one : (sums : ChecksumData) (x ys zs : List ℕ) → AgreesWith sums x ys → (one : DiffersInOneWord ys zs)
    → weighted_difference sums x zs ≡ pos ((one.at + 1) * one.word) -ℤ pos ((one.at + 1) * get_or ys one.at 0)
unfolding weighted_difference
weighted_difference_of_one sums x ys zs agrees one =
    let none = agrees.weighted in
    let moved = ap (λ (l : List ℕ). weighted_sum l + (one.at + 1) * get_or ys one.at 0) one.altered ∙ weighted_sum_set ys one.at one.word one.within in
    omega (arith, ints)

one_is_restored : (sums : ChecksumData) (x ys zs : List ℕ) → AgreesWith sums x ys → (one : DiffersInOneWord ys zs)
    → IsRestored zs (plain_difference sums x zs) (weighted_difference sums x zs) one.at ys
one_is_restored sums x ys zs agrees one =
    let i = one.at in
    let w = one.word in
    let y = get_or ys i 0 in
    let d1 = plain_difference_of_one sums x ys zs agrees one in
    let d2 = weighted_difference_of_one sums x ys zs agrees one in
    let here : get_or zs i 0 ≡ w = ap (λ (l : List ℕ). get_or l i 0) one.altered ∙ get_or-set_same ys i w 0 one.within in
    record {
      altered = λ none. let same : w ≡ y = omega (arith, ints) in one.other same;
      within = omega (arith, ap length one.altered ∙ length-set ys i w, one.within);
      named = ap (λ (z : ℤ). pos (i + 1) *ℤ z) d1 ∙ multiple_of_difference (i + 1) w y ∙ sym d2;
      word = y;
      range = one.was;
      less = omega (arith, ints);
      words = sym (ap (λ (l : List ℕ). set l i y) one.altered ∙ set-set ys i w y ∙ set-get_or ys i 0);
    }

pub one_altered_word_restored : OneAlteredWordIsRestored
one_altered_word_restored sums x ys zs agrees one = restored_is zs ys _ _ one.at (one_is_restored sums x ys zs agrees one)
