use Rattle.std.proofs.Common.{◌≡◌, ◌+◌, ◌*◌, ◌^◌, ◌≤◌, take}
use Rattle.rh_sparse.specs.Product.{row_product}
use Rattle.rh_sparse.proofs.products.row_product.Given as goal

abbrev pub invariant-loop-cell : goal.invariant-loop-cell
invariant-loop-cell l = (l.sum ≡ row_product l.x (take l.cell-index l.row)) × (l.sum + l.cell-index ≤ l.cell-index * 2 ^ 52)
