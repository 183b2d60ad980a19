use Rattle.rh_check.proofs.Countable.{first_stands, rest_stands}
use Rattle.rh_check.proofs.stored.WithChecks.spec.Goals as goal

pub returns-then-at-eq0 : goal.returns-then-at-eq0
returns-then-at-eq0 g c y is = first_stands c.args.self.now.first.spec (g.R.Checks.specs c.args.self.now.rest) c.args.at y c.if-at-eq0.true is

pub returns-else-at-eq0 : goal.returns-else-at-eq0
returns-else-at-eq0 g c y is = c.spec.ensures y (rest_stands c.args.self.now.first.spec (g.R.Checks.specs c.args.self.now.rest) c.args.at y c.if-at-eq0.false is)
