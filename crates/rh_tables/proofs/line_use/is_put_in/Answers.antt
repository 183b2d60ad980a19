use Rattle.std.proofs.Common.{◌∙◌}
use Rattle.rh_tables.proofs.Stepping.{put_in_any}
use Rattle.rh_tables.proofs.line_use.is_put_in.Goals as goal

pub returns : goal.returns
returns c = c.is_any_put.ensures ∙ put_in_any c.args.promise c.args.steps.now
