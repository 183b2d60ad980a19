use Rattle.std.proofs.Common.{◌≡◌, Some, length, arith, ap, subst}
use Rattle.std.specs.List.{slice_get}
use Rattle.rh_sparse.specs.Layout.{rows_from}
use Rattle.rh_sparse.specs.Matrix.{MatrixData, IsRow}
use Rattle.rh_sparse.proofs.Layouts.{length-rows_from, all_at}
use Rattle.rh_sparse.proofs.matrix.Matrix.row.Goals as goal

pub row_in-requires-clause-within : goal.row_in-requires-clause-within
row_in-requires-clause-within c =
    let counted = length-rows_from c.self.inside.cells.items 0 c.self.inside.ends.items in
    let seen = ap (λ (m : MatrixData). length m.rows) c.self.view_is in
    omega arith

pub returns-clause-lawful : goal.returns-clause-lawful
returns-clause-lawful c =
    let here : slice_get (rows_from c.self.inside.cells.items 0 c.self.inside.ends.items) c.args.at ≡ Some c.row_in.result.now = cc in
    subst (λ (m : MatrixData). IsRow m.cols c.row_in.result.now) c.self.view_is (all_at (IsRow c.self.inside.cols) _ _ _ c.self.invariant.lawful.lawful_rows here)
