use Rattle.std.proofs.Common.{ℕ, Option, None, Some, subst}
use Rattle.std.proofs.lemmas.Result.{IfOk-weaker}
use Rattle.rh_schemes.specs.Checking.{IsFirstFailingAt}
use Rattle.rh_schemes.proofs.Correctings.{once_judges}
use Rattle.rh_schemes.proofs.judging.abft.Goals as goal

pub returns-in-None : goal.returns-in-None
returns-in-None g c =
    let plan = c.args.plan.now in
    let inputs = g.I.Inputs.lists c.args.inputs.now in
    let passes = subst (λ (o : Option ℕ). IsFirstFailingAt plan c.args.node inputs c.in_ok-buffer.buffer o) c.in-None.is c.failing.ensures in
    IfOk-weaker c.accepted.result _ _
    (λ r told. once_judges plan c.args.faults.now c.args.node inputs c.in_ok-buffer.buffer None r c.requires.scheme c.in_ok-buffer.ensures.made passes (λ node at. told)) c.accepted.ensures

pub returns-in-Some : goal.returns-in-Some
returns-in-Some g c =
    let plan = c.args.plan.now in
    let inputs = g.I.Inputs.lists c.args.inputs.now in
    let fails = subst (λ (o : Option ℕ). IsFirstFailingAt plan c.args.node inputs c.in_ok-buffer.buffer o) c.in-Some.is c.failing.ensures in
    IfOk-weaker c.corrected.result _ _
    (λ r told. once_judges plan c.args.faults.now c.args.node inputs c.in_ok-buffer.buffer (Some c.in-Some.which) r c.requires.scheme c.in_ok-buffer.ensures.made fails told) c.corrected.ensures
