use Rattle.std.proofs.Common.{rules}
use Rattle.rh_outside.proofs.never_fails.NeverFailsShelf.write.Goals as goal

pub returns-clause-after : goal.returns-clause-after
returns-clause-after = search rules

pub returns-clause-told : goal.returns-clause-told
returns-clause-told = search rules
