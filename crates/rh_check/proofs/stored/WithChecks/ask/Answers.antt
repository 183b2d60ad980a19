use Rattle.std.proofs.Common.{◌∙◌, ap}
use Rattle.rh_check.specs.declared.spec.UserSpec.{UserSpec}
use Rattle.rh_check.specs.Checks.{user_passes}
use Rattle.rh_check.proofs.Countable.{first_stands, rest_stands}
use Rattle.rh_check.proofs.stored.WithChecks.ask.Goals as goal

pub returns-then-at-eq0 : goal.returns-then-at-eq0
returns-then-at-eq0 g c u is =
    let first = first_stands c.args.self.now.first.spec (g.R.Checks.specs c.args.self.now.rest) c.args.at u c.if-at-eq0.true is in
    c.ask.ensures ∙ ap (λ (s : UserSpec). user_passes s c.args.words.now) first

pub returns-else-at-eq0 : goal.returns-else-at-eq0
returns-else-at-eq0 g c u is = c.ask-else-at-eq0.ensures u (rest_stands c.args.self.now.first.spec (g.R.Checks.specs c.args.self.now.rest) c.args.at u c.if-at-eq0.false is)
