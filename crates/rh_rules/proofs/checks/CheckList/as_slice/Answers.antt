use Rattle.std.proofs.Common.{◌∙◌, ap}
use Rattle.rh_rules.specs.Kept.{planned_checks}
use Rattle.rh_rules.proofs.KeptChecks.{planned_checks-kept_checks}
use Rattle.rh_rules.proofs.checks.CheckList.as_slice.Goals as goal

pub returns : goal.returns
returns c = c.as_slice.ensures.value ∙ planned_checks-kept_checks c.self.inside.checks.items c.self.inside.users.items c.self.invariant ∙ ap planned_checks c.self.view_is
