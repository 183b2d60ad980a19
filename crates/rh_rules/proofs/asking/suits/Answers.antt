use Rattle.std.proofs.Common.{arith}
use Rattle.std.proofs.lemmas.Grind.{common_steps}
use Rattle.rh_rules.specs.Facets.{facets}
use Rattle.rh_rules.proofs.asking.suits.Goals as goal

pub returns-in-CheckConserve : goal.returns-in-CheckConserve
unfolding facets
returns-in-CheckConserve = grind (arith, common_steps) steps 2000000
