use Rattle.std.proofs.Common.{◌≡◌, ◌<◌, ◌^◌, map, take}
use Rattle.std.specs.List.{All}
use Rattle.rh_sparse.specs.Product.{row_product}
use Rattle.rh_sparse.proofs.products.product.Given as goal

abbrev pub invariant-loop-at : goal.invariant-loop-at
invariant-loop-at l = (l.words.items ≡ map (row_product l.x) (take l.at l.a.rows)) × All (λ y. y < 2 ^ 63) l.words.items
