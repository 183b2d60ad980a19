use Rattle.std.proofs.Common.{◌∙◌, ap}
use Rattle.rh_rules.specs.Kept.{kept_users}
use Rattle.rh_rules.proofs.KeptChecks.{kept_users-kept_checks}
use Rattle.rh_rules.proofs.checks.CheckList.users.Goals as goal

pub returns : goal.returns
returns c = c.as_slice.ensures.value ∙ kept_users-kept_checks c.self.inside.checks.items c.self.inside.users.items c.self.invariant ∙ ap kept_users c.self.view_is
