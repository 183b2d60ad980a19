use Rattle.std.proofs.Common.{rules}
use Rattle.rh_attempt.proofs.making.make_local.Goals as goal

pub returns-in_ok-push : goal.returns-in_ok-push
returns-in_ok-push = search rules
