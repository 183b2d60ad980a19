use Rattle.std.proofs.Common.{[], ◌∷◌, ◌++◌, length, arith, ap, sym, subst, ◌∙◌}
use Rattle.rh_sparse.specs.Matrix.{MatrixData, matrix_data, IsRow}
use Rattle.rh_sparse.proofs.Layouts.{length-rows_from, laid_out_pushed, rows_pushed}
use Rattle.rh_sparse.proofs.matrix.Matrix.push_row.Goals as goal

pub invariant_of-self-in-Ok : goal.invariant_of-self-in-Ok
invariant_of-self-in-Ok c =
    let counted = length-rows_from c.self.inside.cells.items 0 c.self.inside.ends.items in
    let seen = ap (λ (m : MatrixData). length m.rows) c.self.view_is in
    laid_out_pushed _ _ _ _ _ _ _ c.self.invariant (subst (λ (m : MatrixData). IsRow m.cols c.args.cells.now) (sym c.self.view_is) c.requires.lawful) (omega arith) c.in_ok-extend_from_slice.ensures.items (omega (arith, c.self.inside.cells.ok.0)) c.in-Ok.ensures.items

pub returns-in-Ok-clause-ok : goal.returns-in-Ok-clause-ok
returns-in-Ok-clause-ok c =
    ap (matrix_data c.self.inside.cols) (rows_pushed _ _ _ _ _ _ c.self.invariant.lead c.in_ok-extend_from_slice.ensures.items (omega (arith, c.self.inside.cells.ok.0)) c.in-Ok.ensures.items)
    ∙ ap (λ (m : MatrixData). matrix_data m.cols (m.rows ++ c.args.cells.now ∷ [])) c.self.view_is
