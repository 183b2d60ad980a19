use Rattle.std.proofs.Common.{arith}
use Rattle.std.proofs.lemmas.Grind.{common_steps}
use Rattle.rh_rules.specs.Facets.{facets}
use Rattle.rh_rules.proofs.facets.fits.Goals as goal

pub returns-then-len-all : goal.returns-then-len-all
unfolding facets
returns-then-len-all = grind (arith, common_steps) steps 2000000
