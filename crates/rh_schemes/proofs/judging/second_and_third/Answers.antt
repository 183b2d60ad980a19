use Rattle.std.proofs.Common.{rules}
use Rattle.rh_schemes.proofs.judging.second_and_third.Goals as goal

pub returns : goal.returns
returns = search rules
