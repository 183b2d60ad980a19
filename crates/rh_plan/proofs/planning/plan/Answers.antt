use Rattle.rh_check.specs.Users.{handed_checks}
use Rattle.rh_plan.proofs.KeptUsers.{planned_users, plan_is}
use Rattle.rh_plan.proofs.planning.plan.Goals as goal

pub returns-clause-checks : goal.returns-clause-checks
returns-clause-checks g c =
    let handed = handed_checks (g.C.Checks.names c.args.checks.now) (g.C.Checks.specs c.args.checks.now) in
    let d = c.in_ok-nodes.field-0 in
    planned_users handed c.args.text.now c.in_ok-of.field-0 (plan_is handed c.args.text.now d.nodes.items d.promises.items d.matrices c.in_ok-of.field-0 c.in_ok-of.ensures c.in_ok-nodes.ensures.planned)
