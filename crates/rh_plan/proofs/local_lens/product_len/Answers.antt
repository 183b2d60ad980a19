use Rattle.rh_plan.proofs.LocalLens.{rows_held}
use Rattle.rh_plan.proofs.local_lens.product_len.Goals as goal

pub returns : goal.returns
returns c = rows_held c.args.matrices.now c.args.matrix c.rows_at-rows.result c.rows_at-rows.ensures
