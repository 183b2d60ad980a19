use Rattle.std.proofs.Common.{◌≡◌, length, map, slice_index}
use Rattle.std.proofs.lemmas.Result.{IfOk-weaker}
use Rattle.rh_check.specs.Checks.{words_at}
use Rattle.rh_attempt.proofs.Products.{matrix_there, local_there, columns_fit, product_is}
use Rattle.rh_attempt.proofs.lets.product_of.Goals as goal

pub get-requires : goal.get-requires
get-requires c = matrix_there c.args.plan.now.matrices c.matrices.result.now c.args.matrix (λ s. slice_index (map length c.args.locals.now) c.args.v ≡ s.cols) c.matrices.ensures c.requires.1

pub words_at-requires : goal.words_at-requires
words_at-requires c = local_there c.args.locals.now c.args.v c.requires.0

pub product-requires : goal.product-requires
product-requires c =
    columns_fit c.args.plan.now.matrices c.matrices.result.now c.args.matrix c.args.v c.args.locals.now c.words_at.result.now c.get.result.now c.matrices.ensures c.words_at.ensures c.get.ensures c.requires.0 c.requires.1

pub returns : goal.returns
returns c =
    IfOk-weaker c.product.result _ _
    (λ w made. product_is c.args.plan.now.matrices c.matrices.result.now c.args.matrix c.words_at.result.now (words_at c.args.locals.now c.args.v) w c.get.result.now c.matrices.ensures c.words_at.ensures c.get.ensures made)
    c.product.ensures.value
