use Rattle.std.proofs.Common.{ℕ, ◌*◌, ◌%◌, ◌^◌, arith, ap, sym, slice_index_or}
use Rattle.rh_sparse.specs.declared.matrix.Cell.{Cell}
use Rattle.rh_sparse.proofs.RowProducts.{row_product_none, row_product_more, cell_below}
use Rattle.rh_sparse.proofs.products.row_product.Goals as goal

pub loop-cell-init : goal.loop-cell-init
loop-cell-init c = (sym (row_product_none c.args.x.now), omega arith)

pub loop-cell-preserved : goal.loop-cell-preserved
loop-cell-preserved c =
    let none : Cell = record { col = 0; value = 0 } in
    let at = c.loop-cell.cell-index in
    let cell = slice_index_or c.args.row.now at none in
    let more = row_product_more c.args.x.now c.args.row.now at none (omega arith) in
    let lawful = c.requires.cells at none (omega arith) in
    let below = cell_below cell.value (slice_index_or c.args.x.now cell.col 0) lawful.value in
    let scaled = ap (λ (n : ℕ). n * (slice_index_or c.args.x.now cell.col 0 % 2 ^ 32)) c.from.ensures in
    (omega arith, omega arith)
