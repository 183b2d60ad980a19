use Rattle.std.proofs.Common.{◌∙◌, List, subst, sym, ap}
use Rattle.std.proofs.lemmas.Result.{IfOk-weaker}
use Rattle.std.specs.List.{AllByRecursion}
use Rattle.rh_sparse.specs.Matrix.{MatrixData}
use Rattle.rh_rules.specs.declared.checks.PlannedCheck.{PlannedCheck}
use Rattle.rh_rules.specs.Kept.{planned_checks}
use Rattle.rh_schemes.specs.Correcting.{CanBeRestored, restored_planned}
use Rattle.rh_schemes.proofs.Checkings.{checks_restore}
use Rattle.rh_schemes.proofs.Correctings.{restored_planned-is}
use Rattle.rh_schemes.proofs.judging.restored.Goals as goal

pub restore-requires : goal.restore-requires
restore-requires g c =
    let inputs = g.I.Inputs.lists c.args.inputs.now in
    let task = c.requires.task in
    let fit = checks_restore c.args.plan.now c.args.node inputs c.args.buffer.now c.nodes-known.ensures.lawful task c.requires.fits in
    let made = subst (λ (m : List MatrixData). AllByRecursion (CanBeRestored m inputs c.args.buffer.now) (planned_checks task.node.checks)) (sym c.matrices.ensures) fit in
    subst (λ (l : List PlannedCheck). AllByRecursion (CanBeRestored c.matrices.result.now inputs c.args.buffer.now) l) (sym (c.checks_of.ensures task.node task.there)) made

pub returns : goal.returns
returns g c =
    let inputs = g.I.Inputs.lists c.args.inputs.now in
    IfOk-weaker c.restore.result _ _
    (λ word is node at. is ∙ ap (λ (l : List PlannedCheck). restored_planned c.matrices.result.now l inputs c.args.buffer.now) (c.checks_of.ensures node at)
    ∙ ap (λ (m : List MatrixData). restored_planned m (planned_checks node.checks) inputs c.args.buffer.now) c.matrices.ensures
    ∙ restored_planned-is c.args.plan.now.matrices node.checks inputs c.args.buffer.now) c.restore.ensures
