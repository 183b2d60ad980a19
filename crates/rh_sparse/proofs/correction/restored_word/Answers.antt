use Rattle.std.proofs.Common.{ℕ, List, ap, sym, ◌∙◌}
use Rattle.std.proofs.lemmas.Int.{to_z-of_z}
use Rattle.std.specs.Int.{w128}
use Rattle.std.specs.Int.RustNames.{FitsSigned}
use Rattle.std.specs.List.{slice_set}
use Rattle.std.specs.Option.{option_map}
use Rattle.rh_sparse.proofs.Restoring.{restored_no_row, restored_no_word, restored_there}
use Rattle.rh_sparse.proofs.correction.restored_word.Goals as goal

pub returns-in_err-row-clause-value : goal.returns-in_err-row-clause-value
returns-in_err-row-clause-value c =
    let d1_fits : FitsSigned w128 c.args.d1 = c.ranges.d1 in
    let d2_fits : FitsSigned w128 c.args.d2 = c.ranges.d2 in
    let none = simp to_z-of_z at c.in_err-row.ensures.value in
    restored_no_row c.args.y.now c.args.d1 c.args.d2 (sym none) ∙ sym (ap (option_map {T = ℕ × ℕ} {U = ℕ × List ℕ} (λ p. (p.0, slice_set c.args.y.now p.0 p.1))) c.from_residual.ensures)

pub returns-in_err-word-clause-value : goal.returns-in_err-word-clause-value
returns-in_err-word-clause-value c =
    let d1_fits : FitsSigned w128 c.args.d1 = c.ranges.d1 in
    let d2_fits : FitsSigned w128 c.args.d2 = c.ranges.d2 in
    let named = simp to_z-of_z at c.in_ok-row.ensures.value in
    let none = simp to_z-of_z at c.in_err-word.ensures in
    restored_no_word c.args.y.now c.args.d1 c.args.d2 c.in_ok-row.row (sym named) (sym none) ∙ sym (ap (option_map {T = ℕ × ℕ} {U = ℕ × List ℕ} (λ p. (p.0, slice_set c.args.y.now p.0 p.1))) c.from_residual-in_err-word.ensures)

pub returns-clause-value : goal.returns-clause-value
returns-clause-value c =
    let d1_fits : FitsSigned w128 c.args.d1 = c.ranges.d1 in
    let d2_fits : FitsSigned w128 c.args.d2 = c.ranges.d2 in
    let named = simp to_z-of_z at c.in_ok-row.ensures.value in
    let word = simp to_z-of_z at c.in_ok-word.ensures in
    restored_there c.args.y.now c.args.d1 c.args.d2 c.in_ok-row.row c.in_ok-word.word (sym named) (sym word)
