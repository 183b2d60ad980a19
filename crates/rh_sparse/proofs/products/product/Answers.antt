use Rattle.std.proofs.lemmas.Grind.{common_steps}
use Rattle.std.proofs.Common.{◌<◌, ◌^◌, arith}
use Rattle.std.proofs.lemmas.List.Elements.{All-push, All-same}
use Rattle.rh_sparse.proofs.RowProducts.{product_more}
use Rattle.rh_sparse.proofs.products.product.Goals as goal

pub loop-at-preserved : goal.loop-at-preserved
loop-at-preserved c =
    let pushed = c.in_ok-push.ensures.items in
    let more = product_more c.args.x.now c.args.a.now.rows c.loop-at.at c.row.result.now (omega arith) c.row.ensures.value in
    (cc, All-same (λ y. y < 2 ^ 63) _ _ pushed (All-push (λ y. y < 2 ^ 63) _ _ c.loop-at.invariant.1 c.row_product.ensures.range))

pub returns-clause-value : goal.returns-clause-value
returns-clause-value = grind (arith, common_steps)
