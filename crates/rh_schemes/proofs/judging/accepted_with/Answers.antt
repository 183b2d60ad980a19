use Rattle.std.proofs.Common.{rules}
use Rattle.rh_schemes.proofs.judging.accepted_with.Goals as goal

pub returns : goal.returns
returns = search rules
