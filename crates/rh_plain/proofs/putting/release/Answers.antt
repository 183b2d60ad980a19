use Rattle.std.proofs.Common.{Some}
use Rattle.rh_plain.proofs.Releasing.{keeps_others}
use Rattle.rh_plain.proofs.putting.release.Goals as goal

pub returns-then-branch-clause-kept : goal.returns-then-branch-clause-kept
returns-then-branch-clause-kept c =
    keeps_others c.args.plan.now c.args.history.now c.args.values.now c.free.new.self c.args.promise (Some c.args.node) c.in_ok-release.field-0 c.if-branch.true c.in_ok-release.ensures.last c.free.ensures
