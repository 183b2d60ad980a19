use Rattle.std.proofs.Common.{not, ap, sym, ◌∙◌}
use Rattle.rh_rules.specs.declared.checks.PlannedCheck.{PlannedCheck}
use Rattle.rh_schemes.specs.Checking.{planned_passes}
use Rattle.rh_schemes.proofs.Firsts.{first_here, first_later}
use Rattle.rh_schemes.proofs.checking.first_failing.Goals as goal

pub returns-then-not-check_passes : goal.returns-then-not-check_passes
returns-then-not-check_passes g c =
    let fails = λ (check : PlannedCheck). not (planned_passes c.args.matrices.now (g.C.Checks.specs c.args.handed.now) (g.I.Inputs.lists c.args.inputs.now) c.args.buffer.now check) in
    sym (first_here fails c.args.checks.now c.loop-which.which _ c.loop-which.invariant c.loop-which-test.true (ap not (sym c.check_passes.ensures ∙ c.if-not-check_passes.true)))

pub loop-which-preserved : goal.loop-which-preserved
loop-which-preserved g c =
    let fails = λ (check : PlannedCheck). not (planned_passes c.args.matrices.now (g.C.Checks.specs c.args.handed.now) (g.I.Inputs.lists c.args.inputs.now) c.args.buffer.now check) in
    first_later fails c.args.checks.now c.loop-which.which _ c.loop-which.invariant c.loop-which-test.true (ap not (sym c.check_passes.ensures ∙ c.if-not-check_passes.false))
