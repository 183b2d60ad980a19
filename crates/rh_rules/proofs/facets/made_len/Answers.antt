use Rattle.std.proofs.Common.{rules}
use Rattle.rh_rules.specs.Facets.{facets}
use Rattle.rh_rules.proofs.facets.made_len.Goals as goal

pub returns-in-LetProduct : goal.returns-in-LetProduct
unfolding facets
returns-in-LetProduct = search rules
