use Rattle.std.proofs.Common.{rules}
use Rattle.rh_top.proofs.texts.run_under.Goals as goal

pub returns-in_err-texts-clause-files : goal.returns-in_err-texts-clause-files
returns-in_err-texts-clause-files = search rules

pub returns-clause-files : goal.returns-clause-files
returns-clause-files = search rules

pub returns-clause-texts : goal.returns-clause-texts
returns-clause-texts = search rules
