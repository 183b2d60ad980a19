use Rattle.std.proofs.lemmas.Result.{IfOk-weaker}
use Rattle.rh_schemes.proofs.Correctings.{passing_again, failing_again}
use Rattle.rh_schemes.proofs.judging.checked_again.Goals as goal

pub returns-in-None : goal.returns-in-None
returns-in-None g c =
    IfOk-weaker c.accepted_with.result _ _
    (λ r told. passing_again c.args.plan.now c.args.node (g.I.Inputs.lists c.args.inputs.now) c.args.which c.args.word c.args.fixed c.failing.result r c.failing.ensures c.in-None.is told) c.accepted_with.ensures

pub returns-in-Some : goal.returns-in-Some
returns-in-Some g c =
    IfOk-weaker c.failed.result _ _
    (λ r told. failing_again c.args.plan.now c.args.node (g.I.Inputs.lists c.args.inputs.now) c.args.which c.args.word _ c.args.fixed c.failing.result r c.failing.ensures c.in-Some.is told) c.failed.ensures
