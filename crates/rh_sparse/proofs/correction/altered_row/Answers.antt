use Rattle.std.proofs.Common.{pos, ◌+◌, ap, sym, ◌∙◌, rules}
use Rattle.std.proofs.lemmas.Int.{to_z-of_z}
use Rattle.std.specs.Int.{w128, cast_unsigned}
use Rattle.std.specs.Int.RustNames.{FitsSigned}
use Rattle.rh_sparse.proofs.RowNames.{no_row_named, row_by_number}
use Rattle.rh_sparse.proofs.correction.altered_row.Goals as goal

pub returns-in_err-number-clause-value : goal.returns-in_err-number-clause-value
returns-in_err-number-clause-value c =
    let d1_fits : FitsSigned w128 c.args.d1 = c.ranges.d1 in
    let d2_fits : FitsSigned w128 c.args.d2 = c.ranges.d2 in
    let none = simp to_z-of_z at c.in_err-number.ensures.value in
    c.from_residual.ensures ∙ sym (no_row_named c.args.d1 c.args.d2 c.args.rows (λ e. c.if-d1-eq0.false (ap (cast_unsigned w128) e)) (λ i within named. none (pos (i + 1)) named))

pub returns-clause-value : goal.returns-clause-value
returns-clause-value c =
    let d1_fits : FitsSigned w128 c.args.d1 = c.ranges.d1 in
    let d2_fits : FitsSigned w128 c.args.d2 = c.ranges.d2 in
    let is = simp to_z-of_z at c.in_ok-number.ensures.value in
    let number_fits : FitsSigned w128 c.in_ok-number.number = search rules in
    let row = simp to_z-of_z at c.row_of_number.ensures in
    row_by_number c.args.d1 c.args.d2 c.in_ok-number.number c.args.rows c.row_of_number.result (λ e. c.if-d1-eq0.false (ap (cast_unsigned w128) e)) is row
