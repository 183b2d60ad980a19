use Rattle.rh_check.proofs.Countable.{counted}
use Rattle.rh_check.proofs.stored.WithChecks.count.Goals as goal

pub returns-clause-names : goal.returns-clause-names
returns-clause-names g c =
    counted c.args.self.now.first.name (g.R.Checks.names c.args.self.now.rest) c.count.result c.saturating_add.result c.count.ensures.names c.saturating_add.ensures

pub returns-clause-specs : goal.returns-clause-specs
returns-clause-specs g c =
    counted c.args.self.now.first.spec (g.R.Checks.specs c.args.self.now.rest) c.count.result c.saturating_add.result c.count.ensures.specs c.saturating_add.ensures
