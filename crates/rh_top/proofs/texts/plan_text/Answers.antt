use Rattle.std.proofs.Common.{rules}
use Rattle.rh_top.proofs.texts.plan_text.Goals as goal

pub returns-in_err-text-clause-refused : goal.returns-in_err-text-clause-refused
returns-in_err-text-clause-refused = search rules
