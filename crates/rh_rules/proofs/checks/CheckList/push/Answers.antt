use Rattle.std.proofs.Common.{◌∙◌, ap}
use Rattle.rh_rules.specs.Kept.{KeptCheck, kept_check, kept_checks}
use Rattle.std.proofs.Common.{◌++◌, ◌∷◌, [], List}
use Rattle.rh_rules.proofs.KeptChecks.{kept_checks-append}
use Rattle.rh_rules.proofs.checks.CheckList.push.Goals as goal

pub returns-in-Ok-clause-ok : goal.returns-in-Ok-clause-ok
returns-in-Ok-clause-ok c = rw (c.in_ok-push.ensures.items, c.in-Ok.ensures.items) (kept_checks-append c.self.inside.checks.items c.self.inside.users.items c.args.check c.args.user c.self.invariant ∙ ap (λ (l : List KeptCheck). l ++ kept_check c.args.check c.args.user ∷ []) c.self.view_is)
