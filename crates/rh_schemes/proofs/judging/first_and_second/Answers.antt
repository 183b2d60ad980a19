use Rattle.std.proofs.Common.{rules}
use Rattle.rh_schemes.proofs.judging.first_and_second.Goals as goal

pub returns : goal.returns
returns = search rules
