use Rattle.std.proofs.Common.{◌∙◌, ap, sym}
use Rattle.std.proofs.lemmas.Result.{IfOk-weaker}
use Rattle.std.specs.Option.{option_copied}
use Rattle.rh_schemes.proofs.Restorings.{no_product, one_product, found_product}
use Rattle.rh_schemes.proofs.correcting.restore.Goals as goal

pub returns-in-None : goal.returns-in-None
returns-in-None g c = no_product c.args.matrices.now c.args.checks.now (g.I.Inputs.lists c.args.inputs.now) c.args.buffer.now (sym c.product_check.ensures ∙ ap option_copied c.in-None.is)

pub restore_put-requires-clause-product : goal.restore_put-requires-clause-product
restore_put-requires-clause-product g c =
    (found_product c.args.matrices.now (g.I.Inputs.lists c.args.inputs.now) c.args.buffer.now c.args.checks.now c.in-Some.check.now c.requires (sym c.product_check.ensures ∙ ap option_copied c.in-Some.is)).0

pub restore_put-requires-clause-fits : goal.restore_put-requires-clause-fits
restore_put-requires-clause-fits g c =
    (found_product c.args.matrices.now (g.I.Inputs.lists c.args.inputs.now) c.args.buffer.now c.args.checks.now c.in-Some.check.now c.requires (sym c.product_check.ensures ∙ ap option_copied c.in-Some.is)).1

pub returns-in-Some : goal.returns-in-Some
returns-in-Some g c =
    IfOk-weaker c.restore_put.result _ _
    (λ word is. one_product c.args.matrices.now c.args.checks.now (g.I.Inputs.lists c.args.inputs.now) c.args.buffer.now c.in-Some.check.now _ (sym c.product_check.ensures ∙ ap option_copied c.in-Some.is) is) c.restore_put.ensures
