use Rattle.std.proofs.Common.{rules}
use Rattle.rh_attempt.proofs.lets.combined.Goals as goal

pub returns-in-Stencil1 : goal.returns-in-Stencil1
returns-in-Stencil1 = search rules
