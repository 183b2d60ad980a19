use Rattle.std.proofs.Common.{rules}
use Rattle.rh_plain.proofs.listing.attempt_of.Goals as goal

pub returns-in-Accepted : goal.returns-in-Accepted
returns-in-Accepted = search rules
