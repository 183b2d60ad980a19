use Rattle.std.proofs.Common.{rules}
use Rattle.rh_plain.proofs.listing.await_list.Goals as goal

pub returns : goal.returns
returns = search rules
