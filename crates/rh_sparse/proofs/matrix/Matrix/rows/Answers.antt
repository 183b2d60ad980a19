use Rattle.std.proofs.Common.{length, arith, ap}
use Rattle.rh_sparse.specs.Matrix.{MatrixData}
use Rattle.rh_sparse.proofs.Layouts.{length-rows_from}
use Rattle.rh_sparse.proofs.matrix.Matrix.rows.Goals as goal

pub overflow_cast-result : goal.overflow_cast-result
overflow_cast-result c =
    let counted = length-rows_from c.self.inside.cells.items 0 c.self.inside.ends.items in
    let few = c.self.invariant.lawful.few_rows in
    omega arith

pub returns-clause-value : goal.returns-clause-value
returns-clause-value c =
    let counted = length-rows_from c.self.inside.cells.items 0 c.self.inside.ends.items in
    let seen = ap (λ (m : MatrixData). length m.rows) c.self.view_is in
    omega arith
