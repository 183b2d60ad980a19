use Rattle.std.proofs.Common.{rules}
use Rattle.rh_rules.proofs.facets.add_put.Goals as goal

pub returns-in-Some : goal.returns-in-Some
returns-in-Some = search rules
