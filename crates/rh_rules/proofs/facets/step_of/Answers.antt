use Rattle.std.proofs.Common.{rules}
use Rattle.rh_rules.specs.Facets.{facets}
use Rattle.rh_rules.proofs.facets.step_of.Goals as goal

pub returns : goal.returns
unfolding facets
returns = search rules
