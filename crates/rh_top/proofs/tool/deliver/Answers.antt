use Rattle.std.proofs.Common.{rules}
use Rattle.rh_top.proofs.tool.deliver.Goals as goal

pub returns-then-texts : goal.returns-then-texts
returns-then-texts = search rules

pub returns : goal.returns
returns = search rules
