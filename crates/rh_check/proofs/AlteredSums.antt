-- A sum that one altered word changes.
use Rattle.std.proofs.Common.{◌≡◌, ℕ, ◌+◌, ◌%◌, ◌^◌, ◌<◌, List, [], true, false, take, sum, slice_index, arith, ap, sym, ◌∙◌}
use Rattle.std.proofs.lemmas.Bool.{eqb-true, false_from_ne_true}
use Rattle.std.proofs.lemmas.List.Sums.{sum_by-set}
use Rattle.std.specs.List.{slice_get, slice_index_or}
use Rattle.rh_check.specs.declared.spec.Spec.TheVariants.{Range, Total, Linear, Conserve, Conserve2, Product, User}
use Rattle.rh_check.specs.Checks.{sums_to, words_at, weighted_sums, spec_passes}
use Rattle.rh_sparse.specs.Laws.{DiffersInOneWord}
use Rattle.rh_check.specs.Altered.{SumChecksRefuseOneAlteredWord}
use Rattle.rh_check.proofs.AlteredProducts.{altered_product}
use Rattle.rh_stencil.specs.Conserved.{line_sum_after, grid_sum_after}

same_remainder : (s t x y : ℕ) → s + y ≡ t + x → x < 2 ^ 64 → y < 2 ^ 64 → s % 2 ^ 64 ≡ t % 2 ^ 64 → x ≡ y
same_remainder s t x y sums hx hy same = omega arith

-- words that sum to a number do not so with one word altered
altered_sum : (total : ℕ) (xs ys : List ℕ) → DiffersInOneWord xs ys → sums_to total xs ≡ true → sums_to total ys ≡ false
altered_sum total xs ys one passes = false_from_ne_true (sums_to total ys) (λ also.
    let before : sum xs % 2 ^ 64 ≡ total = eqb-true (sum xs % 2 ^ 64) total passes in
    let after : sum ys % 2 ^ 64 ≡ total = eqb-true (sum ys % 2 ^ 64) total also in
    let sums : sum ys + slice_index xs one.at ≡ sum xs + one.word = ap (λ (l : List ℕ). sum l + slice_index xs one.at) one.altered ∙ sum_by-set (λ x. x) xs one.at one.word 0 one.within in
    one.other (same_remainder (sum ys) (sum xs) one.word (slice_index xs one.at) sums one.range one.was (after ∙ sym before)))

pub sum_checks_refuse_one_altered_word : SumChecksRefuseOneAlteredWord
unfolding spec_passes
sum_checks_refuse_one_altered_word user matrices inputs (Range lo hi) xs ys summed one passes = absurd summed
sum_checks_refuse_one_altered_word user matrices inputs (Total total) xs ys summed one passes = altered_sum total xs ys one passes
sum_checks_refuse_one_altered_word user matrices inputs (Linear base terms count) xs ys summed one passes = altered_sum ((base + weighted_sums inputs (take count terms)) % 2 ^ 64) xs ys one passes
sum_checks_refuse_one_altered_word user matrices inputs (Conserve l m r k s) xs ys summed one passes =
    altered_sum (line_sum_after (words_at inputs l) (words_at inputs m) (words_at inputs r) k s) xs ys one passes
sum_checks_refuse_one_altered_word user matrices inputs (Conserve2 north south west east m cols k s) xs ys summed one passes =
    let halo = words_at inputs in
    altered_sum (grid_sum_after (halo north) (halo south) (halo west) (halo east) (words_at inputs m) cols k s) xs ys one passes
sum_checks_refuse_one_altered_word user matrices inputs (Product matrix x) xs ys summed one passes = altered_product (slice_get matrices matrix) (slice_index_or inputs x []) xs ys one passes
sum_checks_refuse_one_altered_word user matrices inputs (User at) xs ys summed one passes = absurd summed
