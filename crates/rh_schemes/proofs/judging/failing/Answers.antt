use Rattle.std.proofs.Common.{◌≤◌, ◌∙◌, ℕ, List, Option, length, subst, sym, ap}
use Rattle.std.specs.List.{AllByRecursion}
use Rattle.rh_sparse.specs.Matrix.{MatrixData}
use Rattle.rh_rules.specs.declared.checks.PlannedCheck.{PlannedCheck}
use Rattle.rh_rules.specs.Kept.{planned_checks}
use Rattle.rh_schemes.specs.Checking.{CanBeMade, first_planned, IsFirstFailingAt}
use Rattle.rh_schemes.proofs.Checkings.{checks_fit, checks_few, first_kept}
use Rattle.rh_schemes.proofs.judging.failing.Goals as goal

pub first_failing-requires-clause-few : goal.first_failing-requires-clause-few
first_failing-requires-clause-few g c =
    let task = c.requires.task in
    subst (λ (l : List PlannedCheck). length l ≤ 16) (sym (c.checks_of.ensures task.node task.there)) (checks_few c.args.plan.now c.args.node task.node c.nodes-known.ensures.lawful task.there)

pub first_failing-requires-clause-fits : goal.first_failing-requires-clause-fits
first_failing-requires-clause-fits g c =
    let inputs = g.I.Inputs.lists c.args.inputs.now in
    let users = g.C.Checks.specs c.args.checks.now in
    let task = c.requires.task in
    let fit = checks_fit c.args.plan.now c.args.node inputs users c.args.buffer.now c.nodes-known.ensures.lawful task c.requires.fits c.requires.checks in
    subst (λ (l : List PlannedCheck). AllByRecursion (CanBeMade c.matrices.result.now users inputs c.args.buffer.now) l) (sym (c.checks_of.ensures task.node task.there))
    (subst (λ (m : List MatrixData). AllByRecursion (CanBeMade m users inputs c.args.buffer.now) (planned_checks task.node.checks)) (sym c.matrices.ensures) fit)

pub returns : goal.returns
returns g c =
    let inputs = g.I.Inputs.lists c.args.inputs.now in
    let users = g.C.Checks.specs c.args.checks.now in
    let task = c.requires.task in
    let told = c.first_failing.ensures ∙ ap (λ (l : List PlannedCheck). first_planned c.matrices.result.now users inputs c.args.buffer.now l) (c.checks_of.ensures task.node task.there)
    ∙ ap (λ (m : List MatrixData). first_planned m users inputs c.args.buffer.now (planned_checks task.node.checks)) c.matrices.ensures in
    subst (λ (o : Option ℕ). IsFirstFailingAt c.args.plan.now c.args.node inputs c.args.buffer.now o) (sym told)
    (first_kept c.args.plan.now c.args.node task.node users inputs c.args.buffer.now task.there c.requires.checks)
